use Rattle.std.proofs.Common.{refl}
use Rattle.dd_pages_and_checkpoints.proofs.PageLemmas.{front_written, lines_sent}
use Rattle.dd_pages_and_checkpoints.proofs.pages.Page.flush.Goals as goal

pub returns-in_err-write-clause-front : goal.returns-in_err-write-clause-front
returns-in_err-write-clause-front g c k base start ss has = front_written k base start _ _ c.render.new.self ss c.write.ensures.part.front (c.in_ok-render.ensures.kept k base start ss has)

pub returns-clause-kept : goal.returns-clause-kept
returns-clause-kept g c k base start ss has = lines_sent k base start _ _ c.render.new.self _ ss refl refl c.in_ok-write.ensures.sent (c.in_ok-render.ensures.kept k base start ss has)

pub returns-clause-front : goal.returns-clause-front
returns-clause-front g c k base start ss has = front_written k base start _ _ c.render.new.self ss c.write.ensures.part.front (c.in_ok-render.ensures.kept k base start ss has)
