-- What a search for the degrees of a table keeps.
use Rattle.dd_branch_degrees.specs.Assignment.{Assigned}
use Rattle.dd_branch_degrees.specs.declared.assignment.Assignment.TheInside.{Inside}

-- what is known of it
abbrev pub assigned_of : Inside → Assigned
assigned_of a = record { request = a.request; table = a.table; ties = a.ties; places = a.places; budgets = a.budgets; degrees = a.degrees; first = a.first }
