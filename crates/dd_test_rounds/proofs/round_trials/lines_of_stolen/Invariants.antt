use Rattle.dd_test_rounds.proofs.round_trials.lines_of_stolen.Given as goal

-- the round of these jobs, and the ledgers of these blanks
abbrev pub ghosts-stolen_by_one-N-Naming : goal.ghosts-stolen_by_one-N-Naming
ghosts-stolen_by_one-N-Naming g a = record { request = a.request.now; jobs = a.jobs.items }

abbrev pub ghosts-stolen_by_one-K-Ledger : goal.ghosts-stolen_by_one-K-Ledger
ghosts-stolen_by_one-K-Ledger g a = record { name = a.blanks.take.name; parts = a.blanks.take.parts }

abbrev pub ghosts-stolen_by_one-L-Ledger : goal.ghosts-stolen_by_one-L-Ledger
ghosts-stolen_by_one-L-Ledger g a = record { name = a.blanks.look.name; parts = a.blanks.look.parts }

abbrev pub ghosts-stolen_by_one-S-Ledger : goal.ghosts-stolen_by_one-S-Ledger
ghosts-stolen_by_one-S-Ledger g a = record { name = a.blanks.split.name; parts = a.blanks.split.parts }

abbrev pub ghosts-stolen_by_one-D-Ledger : goal.ghosts-stolen_by_one-D-Ledger
ghosts-stolen_by_one-D-Ledger g a = record { name = a.blanks.finish.name; parts = a.blanks.finish.parts }

abbrev pub ghosts-stolen_by_one-B-Ledger : goal.ghosts-stolen_by_one-B-Ledger
ghosts-stolen_by_one-B-Ledger g a = record { name = a.blanks.back.name; parts = a.blanks.back.parts }
