-- The request of taken words is valid.
use Rattle.std.proofs.Common.{◌≡◌, ◌≤◌, ℕ, inl, inr, Option, Some, None, List, [], ◌∷◌, refl, subst, arith}
use Rattle.std.specs.List.{AllByRecursion, onto_first}
use Rattle.std.specs.Prelude.{◌==◌, Bool, true, false, cond}
use Rattle.dd_model.specs.Request.{IsValid, HasNumber}
use Rattle.dd_model.specs.declared.allowed.Allowed.{Allowed}
use Rattle.dd_model.specs.declared.requests.Request.{Request}
use Rattle.dd_words.specs.declared.settings.Setting.{Setting}
use Rattle.dd_front_jobs.specs.declared.pace.Pace.{Pace}
use Rattle.dd_front_jobs.specs.declared.shards.Shard.{Shard}
use Rattle.dd_words.specs.declared.commands.Command.TheVariants.{Catalogue, Shard as ShardOf}
use Rattle.dd_words.specs.Values.{Text, AsksForNumbers, IsCovered, items_of}
use Rattle.dd_words.specs.Given.{Given}
use Rattle.dd_words.specs.Grammar.{IsCatalogue, IsSaid, IsCommand}
use Rattle.dd_words.specs.GivenValues.{IsNumberOr, IsSet}
use Rattle.dd_words.proofs.OneValue.{least_range}

-- the first item has a number
front : (ws : List Text) → (ws ≡ [] → ⊥) → AllByRecursion AsksForNumbers ws → (m : ℕ) × IsCovered ws m
front [] some all = absurd (some refl)
front (w ∷ ws) some all =
    (all.0.low, record { word = w; low = all.0.low; high = all.0.high; contains = (0, omega arith, refl); item = all.0.item; from = omega arith; to = all.0.item.ordered })

not_empty : (b : ℕ) (xs : List Text) → onto_first b xs ≡ [] → ⊥
not_empty b [] e = cc
not_empty b (x ∷ xs) e = cc

some_items : (w : Text) → items_of w ≡ [] → ⊥
some_items [] e = cc
some_items (b ∷ bs) e = go (b == 44) e
  where
    go : (t : Bool) → cond t ([] ∷ items_of bs) (onto_first b (items_of bs)) ≡ [] → ⊥
    go true f = cc
    go false f = not_empty b (items_of bs) f

has_number : (ss : List Given) (set least : Setting) (a : Allowed) → IsSet ss set least a → HasNumber a
has_number ss set least a (inl h) =
    let m = front (items_of h.word) (some_items h.word) h.is_set.items in (m.0, (h.is_set.members m.0).1 m.1)
has_number ss set least a (inr h) =
    let range = least_range ss least h.first h.is_first in
    let high = range.1 in
    (h.first, (h.is_set h.first).1 (omega arith, omega arith))

in_range : (ss : List Given) (s : Setting) (low high default n : ℕ) → low ≤ default → default ≤ high → IsNumberOr ss s low high default n → (low ≤ n) × (n ≤ high)
in_range ss s low high default n from to (inl h) = let e = h.1 in (omega arith, omega arith)
in_range ss s low high default n from to (inr h) = (h.number.from, h.number.to)

at_most : (ss : List Given) (s : Setting) (n : ℕ) → IsNumberOr ss s 1 36 0 n → n ≤ 36
at_most ss s n (inl h) = let e = h.1 in omega arith
at_most ss s n (inr h) = h.number.to

asked_valid : (n : Text) (ss : List Given) (q : Request) (pace : Pace) (pause : Option ℕ) (checkpoint : Option Text) → IsCatalogue n ss q pace pause checkpoint → IsValid q
asked_valid n ss q pace pause checkpoint h = record {
  chambers = (h.request.chambers.from, h.request.chambers.to);
  tiles = at_most ss _ q.tiles h.request.tiles;
  vertices = at_most ss _ q.vertices h.request.vertices;
  faces = has_number ss _ _ q.faces h.request.faces;
  degrees = has_number ss _ _ q.degrees h.request.degrees;
}

asked_pause : (n : Text) (ss : List Given) (q : Request) (pace : Pace) (pause : Option ℕ) → IsCatalogue n ss q pace pause None → pause ≡ None
asked_pause n ss q pace None h = refl
asked_pause n ss q pace (Some lines) h = let e = h.resumable refl in absurd (cc)

-- what the words of a catalogue or of a shard say of their request
pub record IsAskedWell (q : Request) (pause : Option ℕ) (checkpoint : Option Text) : Type 0 where
  pub valid : IsValid q
  pub lone : checkpoint ≡ None → pause ≡ None

asked_well : (n : Text) (ss : List Given) (q : Request) (pace : Pace) (pause : Option ℕ) (checkpoint : Option Text) → IsCatalogue n ss q pace pause checkpoint
    → IsAskedWell q pause checkpoint
asked_well n ss q pace pause checkpoint h = record {
  valid = asked_valid n ss q pace pause checkpoint h;
  lone = λ none. asked_pause n ss q pace pause (subst (λ k. IsCatalogue n ss q pace pause k) none h);
}

catalogue_said : (xs : List Text) (ss : List Given) (q : Request) (pace : Pace) (pause : Option ℕ) (checkpoint : Option Text)
    → IsSaid (Catalogue q pace pause checkpoint) xs ss → IsAskedWell q pause checkpoint
catalogue_said (x ∷ []) ss q pace pause checkpoint h = asked_well x ss q pace pause checkpoint h
catalogue_said [] ss q pace pause checkpoint h = absurd h
catalogue_said (x ∷ y ∷ xs) ss q pace pause checkpoint h = absurd h

shard_said : (xs : List Text) (ss : List Given) (shard : Shard) (q : Request) (pace : Pace) (pause : Option ℕ) (checkpoint : Option Text)
    → IsSaid (ShardOf shard q pace pause checkpoint) xs ss → IsAskedWell q pause checkpoint
shard_said (x ∷ y ∷ z ∷ []) ss shard q pace pause checkpoint h = asked_well z ss q pace pause checkpoint h.catalogue
shard_said [] ss shard q pace pause checkpoint h = absurd h
shard_said (x ∷ []) ss shard q pace pause checkpoint h = absurd h
shard_said (x ∷ y ∷ []) ss shard q pace pause checkpoint h = absurd h
shard_said (x ∷ y ∷ z ∷ v ∷ xs) ss shard q pace pause checkpoint h = absurd h

pub catalogue_well : (words : List Text) (q : Request) (pace : Pace) (pause : Option ℕ) (checkpoint : Option Text)
    → IsCommand words (Catalogue q pace pause checkpoint) → IsAskedWell q pause checkpoint
catalogue_well words q pace pause checkpoint h = catalogue_said h.arguments h.settings q pace pause checkpoint h.said

pub shard_well : (words : List Text) (shard : Shard) (q : Request) (pace : Pace) (pause : Option ℕ) (checkpoint : Option Text)
    → IsCommand words (ShardOf shard q pace pause checkpoint) → IsAskedWell q pause checkpoint
shard_well words shard q pace pause checkpoint h = shard_said h.arguments h.settings shard q pace pause checkpoint h.said

pub valid : (words : List Text) (q : Request) (pace : Pace) (pause : Option ℕ) (checkpoint : Option Text)
    → IsCommand words (Catalogue q pace pause checkpoint) → IsValid q
valid words q pace pause checkpoint h = (catalogue_well words q pace pause checkpoint h).valid
