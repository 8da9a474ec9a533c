mod SpokeLemmas
