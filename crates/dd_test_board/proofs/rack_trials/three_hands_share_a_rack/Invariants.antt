use Rattle.dd_test_board.proofs.rack_trials.three_hands_share_a_rack.Given as goal

abbrev pub ghosts-row_of_three : goal.ghosts-row_of_three
ghosts-row_of_three g a = record { request = a.request; jobs = a.jobs.items }
