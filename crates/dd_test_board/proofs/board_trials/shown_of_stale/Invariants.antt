use Rattle.dd_test_board.proofs.board_trials.shown_of_stale.Given as goal

-- the round of these jobs
abbrev pub ghosts-at_a_desk : goal.ghosts-at_a_desk
ghosts-at_a_desk g a = record { request = a.request.now; jobs = a.jobs.items }
