use Rattle.std.proofs.Common.{◌≡◌, subst, Ok, true}
use Rattle.dd_ports.specs.Texts.{Fills, Fetches}
use Rattle.dd_suite_tasks.proofs.LongFiles.{more_held}
use Rattle.dd_suite_tasks.proofs.fetch.fetch_all.Goals as goal

pub returns-in-Longer-clause-bytes : goal.returns-in-Longer-clause-bytes
returns-in-Longer-clause-bytes g c =
    let tells = g.S.Store.tells c.args.store.now in
    let held = g.S.Store.held c.args.store.now c.args.name.now in
    let into = c.fetch.new.into.items in
    more_held tells held into c.args.most
    (subst (λ fetched. Fills c.args.most into (Ok fetched)) c.in-Longer.is c.in_ok-fetch.ensures.fills)
    (subst (λ fetched. tells ≡ true → Fetches held into (Ok fetched)) c.in-Longer.is c.in_ok-fetch.ensures.bytes)
