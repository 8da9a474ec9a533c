use Rattle.dd_front.proofs.ticket.Ticket.new.Goals as goal

pub invariant_of-result : goal.invariant_of-result
invariant_of-result g c = record { valid = ∣ c.requires.valid ∣₁; job_of = c.requires.job_of }
