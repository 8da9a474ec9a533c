use Rattle.dd_test_board.proofs.board_trials.shown_of_one.Given as goal

-- the round of these jobs, and the ledgers of these blanks
abbrev pub ghosts-at_one_seat-N-Naming : goal.ghosts-at_one_seat-N-Naming
ghosts-at_one_seat-N-Naming g a = record { request = a.request.now; jobs = a.jobs.items }

abbrev pub ghosts-at_one_seat-K-Ledger : goal.ghosts-at_one_seat-K-Ledger
ghosts-at_one_seat-K-Ledger g a = record { name = a.blanks.take.name; parts = a.blanks.take.parts }

abbrev pub ghosts-at_one_seat-L-Ledger : goal.ghosts-at_one_seat-L-Ledger
ghosts-at_one_seat-L-Ledger g a = record { name = a.blanks.look.name; parts = a.blanks.look.parts }

abbrev pub ghosts-at_one_seat-S-Ledger : goal.ghosts-at_one_seat-S-Ledger
ghosts-at_one_seat-S-Ledger g a = record { name = a.blanks.split.name; parts = a.blanks.split.parts }

abbrev pub ghosts-at_one_seat-D-Ledger : goal.ghosts-at_one_seat-D-Ledger
ghosts-at_one_seat-D-Ledger g a = record { name = a.blanks.finish.name; parts = a.blanks.finish.parts }

abbrev pub ghosts-at_one_seat-B-Ledger : goal.ghosts-at_one_seat-B-Ledger
ghosts-at_one_seat-B-Ledger g a = record { name = a.blanks.back.name; parts = a.blanks.back.parts }
