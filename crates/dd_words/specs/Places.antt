-- The names by which clap keeps arguments, and which commands have them.
use Rattle.std.specs.Prelude.{List, [], ◌∷◌, Bool, true, false, codes}
use Rattle.dd_words.specs.declared.places.Place.{Place}
use Rattle.dd_words.specs.declared.places.Place.TheVariants.{First, Second, Third, Fourth, Fifth, Sixth, Seventh, Eighth}
use Rattle.dd_words.specs.declared.verbs.Verb.{Verb}
use Rattle.dd_words.specs.declared.verbs.Verb.TheVariants as verb
use Rattle.dd_words.specs.Values.{Text}

-- the name of a place
abbrev pub name_of : Place → Text
name_of First = codes "first"
name_of Second = codes "second"
name_of Third = codes "third"
name_of Fourth = codes "fourth"
name_of Fifth = codes "fifth"
name_of Sixth = codes "sixth"
name_of Seventh = codes "seventh"
name_of Eighth = codes "eighth"

-- all places, in their order
abbrev pub all_places : List Place
all_places = First ∷ Second ∷ Third ∷ Fourth ∷ Fifth ∷ Sixth ∷ Seventh ∷ Eighth ∷ []

-- one argument
abbrev pub is_first : Place → Bool
is_first First = true
is_first _ = false

-- two arguments
abbrev pub is_one_of_two : Place → Bool
is_one_of_two First = true
is_one_of_two Second = true
is_one_of_two _ = false

-- three arguments
abbrev pub is_one_of_three : Place → Bool
is_one_of_three First = true
is_one_of_three Second = true
is_one_of_three Third = true
is_one_of_three _ = false

-- An exercise and a word of operations have two arguments, a shard has three, a merge has up to eight, and the others
-- have one.
abbrev pub has_place : Verb → Place → Bool
has_place verb.Exercise place = is_one_of_two place
has_place verb.Apply place = is_one_of_two place
has_place verb.Shard place = is_one_of_three place
has_place verb.Merge place = true
has_place _ place = is_first place
