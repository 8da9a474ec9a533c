use Rattle.dd_steal.proofs.round.run_round.Given as goal

-- the round of these jobs, and the ledgers of these blanks
abbrev pub ghosts-run_named-N-Naming : goal.ghosts-run_named-N-Naming
ghosts-run_named-N-Naming g a = record { request = g.F.Finder.request a.finder.now; jobs = a.jobs.items }

abbrev pub ghosts-run_named-K-Ledger : goal.ghosts-run_named-K-Ledger
ghosts-run_named-K-Ledger g a = record { name = a.blanks.take.name; parts = a.blanks.take.parts }

abbrev pub ghosts-run_named-L-Ledger : goal.ghosts-run_named-L-Ledger
ghosts-run_named-L-Ledger g a = record { name = a.blanks.look.name; parts = a.blanks.look.parts }

abbrev pub ghosts-run_named-S-Ledger : goal.ghosts-run_named-S-Ledger
ghosts-run_named-S-Ledger g a = record { name = a.blanks.split.name; parts = a.blanks.split.parts }

abbrev pub ghosts-run_named-D-Ledger : goal.ghosts-run_named-D-Ledger
ghosts-run_named-D-Ledger g a = record { name = a.blanks.finish.name; parts = a.blanks.finish.parts }

abbrev pub ghosts-run_named-B-Ledger : goal.ghosts-run_named-B-Ledger
ghosts-run_named-B-Ledger g a = record { name = a.blanks.back.name; parts = a.blanks.back.parts }
