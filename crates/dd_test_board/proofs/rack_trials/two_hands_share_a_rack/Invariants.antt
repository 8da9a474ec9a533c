use Rattle.dd_test_board.proofs.rack_trials.two_hands_share_a_rack.Given as goal

abbrev pub ghosts-row_of_two : goal.ghosts-row_of_two
ghosts-row_of_two g a = record { request = a.request; jobs = a.jobs.items }

abbrev pub ghosts-row_of_full_hand : goal.ghosts-row_of_full_hand
ghosts-row_of_full_hand g a = record { request = a.request; jobs = a.jobs.items }
