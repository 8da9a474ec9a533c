use Rattle.dd_test_board.proofs.board_trials.shown_of_two.Given as goal

-- the round of these jobs, and the ledgers of these blanks
abbrev pub ghosts-at_two_seats-N-Naming : goal.ghosts-at_two_seats-N-Naming
ghosts-at_two_seats-N-Naming g a = record { request = a.request.now; jobs = a.jobs.items }

abbrev pub ghosts-at_two_seats-K-Ledger : goal.ghosts-at_two_seats-K-Ledger
ghosts-at_two_seats-K-Ledger g a = record { name = a.blanks.take.name; parts = a.blanks.take.parts }

abbrev pub ghosts-at_two_seats-L-Ledger : goal.ghosts-at_two_seats-L-Ledger
ghosts-at_two_seats-L-Ledger g a = record { name = a.blanks.look.name; parts = a.blanks.look.parts }

abbrev pub ghosts-at_two_seats-S-Ledger : goal.ghosts-at_two_seats-S-Ledger
ghosts-at_two_seats-S-Ledger g a = record { name = a.blanks.split.name; parts = a.blanks.split.parts }

abbrev pub ghosts-at_two_seats-D-Ledger : goal.ghosts-at_two_seats-D-Ledger
ghosts-at_two_seats-D-Ledger g a = record { name = a.blanks.finish.name; parts = a.blanks.finish.parts }

abbrev pub ghosts-at_two_seats-B-Ledger : goal.ghosts-at_two_seats-B-Ledger
ghosts-at_two_seats-B-Ledger g a = record { name = a.blanks.back.name; parts = a.blanks.back.parts }
