-- Settings that have the same values ask for the same commands.
use Rattle.std.proofs.Common.{◌≡◌, ◌∙◌, ◌||◌, ◌++◌, ℕ, suc, Bool, true, false, cond, List, [], ◌∷◌, Option, Some, None, refl, sym, ap, inl, inr, arith}
use Rattle.std.specs.List.{list_any}
use Rattle.std.proofs.lemmas.Slice.Eq.{bytes_eq-Decides}
use Rattle.dd_model.specs.declared.allowed.Allowed.{Allowed}
use Rattle.dd_model.specs.declared.requests.Request.{Request}
use Rattle.dd_words.specs.declared.settings.Setting.{Setting}
use Rattle.dd_words.specs.declared.settings.Setting.TheVariants.{Tiles, Vertices, LeastFace, LeastDegree, Faces, Degrees, Minimal, Workers, Round, Pause, Checkpoint, Cell}
use Rattle.dd_words.specs.declared.commands.Command.{Command}
use Rattle.dd_words.specs.declared.commands.Command.TheVariants as command
use Rattle.dd_model.specs.declared.frame.Frame.{Frame}
use Rattle.dd_words.specs.Values.{Text}
use Rattle.dd_words.specs.Given.{Given, AreSingle, Has, Lacks}
use Rattle.dd_words.specs.SettingNames.{word_of}
use Rattle.dd_words.specs.Grammar.{IsRun, IsRequested, IsCatalogue, IsSaid}
use Rattle.dd_words.specs.GivenValues.{IsNumberGiven, IsNumberOr, IsNumberIfGiven, IsNameIfGiven, IsFlagIfGiven, IsSet, IsFramed}
use Rattle.dd_words.specs.Apps.{all_settings}
use Rattle.dd_words.specs.Matching.{given_by}
use Rattle.dd_words.proofs.Told.{same_setting}
use Rattle.dd_words.proofs.OneValue.{not_both, same_value}
use Rattle.dd_words.proofs.ClapRows.{same_word, value_in}
use Rattle.dd_words.proofs.ClapReads.{picked}
use Rattle.dd_front_jobs.specs.declared.pace.Pace.{Pace}
use Rattle.std.proofs.lemmas.Option.{same_Some}

same_given : (g : Given) (s : Setting) (x : Text) → g.setting ≡ s → g.value ≡ x → g ≡ record { setting = s; value = x }
same_given g s x e f = λ i. record { setting = e i; value = f i }

-- ---- the first value

value_has : (gs : List Given) (s : Setting) (x : Text) → value_in gs s ≡ Some x → Has gs s x
value_has [] s x e = absurd (cc)
value_has (g ∷ gs) s x e = go (same_word g.setting s) (λ t. same_setting g.setting s ((bytes_eq-Decides (word_of g.setting) (word_of s)).0 t)) e (value_has gs s x)
  where
    later : Has gs s x → Has (g ∷ gs) s x
    later h = (suc h.0, (let low = h.1 in omega arith), h.2)

    go : (b : Bool) → (b ≡ true → g.setting ≡ s) → cond b (Some g.value) (value_in gs s) ≡ Some x → (value_in gs s ≡ Some x → Has gs s x) → Has (g ∷ gs) s x
    go true same f more = (0, omega arith, same_given g s x (same refl) (same_Some g.value x f))
    go false same f more = later (more f)

value_lacks : (gs : List Given) (s : Setting) → value_in gs s ≡ None → Lacks gs s
value_lacks [] s e = tt
value_lacks (g ∷ gs) s e = go (same_word g.setting s) refl e (value_lacks gs s)
  where
    go : (b : Bool) → same_word g.setting s ≡ b → cond b (Some g.value) (value_in gs s) ≡ None → (value_in gs s ≡ None → Lacks gs s) → Lacks (g ∷ gs) s
    go true same f more = absurd (cc)
    go false same f more = (λ h. let is = (bytes_eq-Decides (word_of g.setting) (word_of s)).1 (ap word_of h) in absurd (cc), more f)

has_value_in : (gs : List Given) (s : Setting) (x : Text) → AreSingle gs → Has gs s x → value_in gs s ≡ Some x
has_value_in gs s x single h = go (value_in gs s) refl
  where
    go : (o : Option Text) → value_in gs s ≡ o → value_in gs s ≡ Some x
    go None e = absurd (not_both gs s x h (value_lacks gs s e))
    go (Some y) e = e ∙ ap (λ z. Some z) (same_value gs s y x single (value_has gs s y e) h)

lacks_value_in : (gs : List Given) (s : Setting) → Lacks gs s → value_in gs s ≡ None
lacks_value_in gs s h = go (value_in gs s) refl
  where
    go : (o : Option Text) → value_in gs s ≡ o → value_in gs s ≡ None
    go None e = e
    go (Some y) e = absurd (not_both gs s y (value_has gs s y e) h)

-- ---- the settings in the order of the program

abbrev stands : List Setting → Setting → Bool
stands ss s = list_any (λ t. same_word t s) ss

skipped : (gs : List Given) (t s : Setting) (o : Option Text) (rest : List Given) → same_word t s ≡ false → value_in (given_by t o ++ rest) s ≡ value_in rest s
skipped gs t s None rest e = refl
skipped gs t s (Some x) rest e = ap (λ b. cond b (Some x) (value_in rest s)) e

picked_value : (gs : List Given) (ss : List Setting) (s : Setting) → value_in (picked gs ss) s ≡ cond (stands ss s) (value_in gs s) None
picked_value gs [] s = refl
picked_value gs (t ∷ ss) s = go (same_word t s) refl (picked_value gs ss s)
  where
    none_there : (b : Bool) → value_in gs s ≡ None → cond b (value_in gs s) None ≡ value_in gs s
    none_there true e = refl
    none_there false e = sym e

    here : (o : Option Text) → value_in gs s ≡ o → same_word t s ≡ true → value_in (picked gs ss) s ≡ cond (stands ss s) (value_in gs s) None
        → value_in (given_by t o ++ picked gs ss) s ≡ value_in gs s
    here None e same more = more ∙ none_there (stands ss s) e
    here (Some x) e same more = ap (λ b. cond b (Some x) (value_in (picked gs ss) s)) same ∙ sym e

    go : (b : Bool) → same_word t s ≡ b → value_in (picked gs ss) s ≡ cond (stands ss s) (value_in gs s) None
        → value_in (given_by t (value_in gs t) ++ picked gs ss) s ≡ cond (b || stands ss s) (value_in gs s) None
    go true same more =
        let is : t ≡ s = same_setting t s ((bytes_eq-Decides (word_of t) (word_of s)).0 same) in
        here (value_in gs t) (ap (value_in gs) (sym is)) same more
    go false same more = skipped gs t s (value_in gs t) (picked gs ss) same ∙ more

abbrev Distinct : List Setting → Type 0
Distinct [] = Unit {0}
Distinct (s ∷ ss) = (stands ss s ≡ false) × Distinct ss

picked_single : (gs : List Given) (ss : List Setting) → Distinct ss → AreSingle (picked gs ss)
picked_single gs [] d = tt
picked_single gs (s ∷ ss) d = go (value_in gs s) (picked_single gs ss d.1)
  where
    go : (o : Option Text) → AreSingle (picked gs ss) → AreSingle (given_by s o ++ picked gs ss)
    go None more = more
    go (Some x) more = (value_lacks (picked gs ss) s (picked_value gs ss s ∙ ap (λ b. cond b (value_in gs s) None) d.0), more)

pub all_single : (gs : List Given) → AreSingle (picked gs all_settings)
all_single gs = picked_single gs all_settings (refl, (refl, (refl, (refl, (refl, (refl, (refl, (refl, (refl, (refl, (refl, (refl, tt))))))))))))

all_stand : (s : Setting) → stands all_settings s ≡ true
all_stand Tiles = refl
all_stand Vertices = refl
all_stand LeastFace = refl
all_stand LeastDegree = refl
all_stand Faces = refl
all_stand Degrees = refl
all_stand Minimal = refl
all_stand Workers = refl
all_stand Round = refl
all_stand Pause = refl
all_stand Checkpoint = refl
all_stand Cell = refl

all_value : (gs : List Given) (s : Setting) → value_in (picked gs all_settings) s ≡ value_in gs s
all_value gs s = picked_value gs all_settings s ∙ ap (λ b. cond b (value_in gs s) None) (all_stand s)

-- ---- the same values, the same commands

pub record SameValues (before after : List Given) : Type 0 where
  pub has : (s : Setting) (x : Text) → Has before s x → Has after s x
  pub lacks : (s : Setting) → Lacks before s → Lacks after s

same_values : (gs hs : List Given) → AreSingle gs → ((s : Setting) → value_in gs s ≡ value_in hs s) → SameValues gs hs
same_values gs hs single same = record {
  has = λ s x h. value_has hs s x (sym (same s) ∙ has_value_in gs s x single h);
  lacks = λ s h. value_lacks hs s (sym (same s) ∙ lacks_value_in gs s h);
}

pub picked_from : (gs : List Given) → AreSingle gs → SameValues gs (picked gs all_settings)
picked_from gs single = same_values gs (picked gs all_settings) single (λ s. sym (all_value gs s))

pub picked_to : (gs : List Given) → SameValues (picked gs all_settings) gs
picked_to gs = same_values (picked gs all_settings) gs (all_single gs) (all_value gs)

module _ (gs hs : List Given) (m : SameValues gs hs) where
  number_given : (s : Setting) (low high n : ℕ) → IsNumberGiven gs s low high n → IsNumberGiven hs s low high n
  number_given s low high n h = record { word = h.word; has = m.has s h.word h.has; number = h.number }

  number_or : (s : Setting) (low high default n : ℕ) → IsNumberOr gs s low high default n → IsNumberOr hs s low high default n
  number_or s low high default n (inl h) = inl (m.lacks s h.0, h.1)
  number_or s low high default n (inr h) = inr (number_given s low high n h)

  number_if : (s : Setting) (low high : ℕ) (n : Option ℕ) → IsNumberIfGiven gs s low high n → IsNumberIfGiven hs s low high n
  number_if s low high None h = m.lacks s h
  number_if s low high (Some n) h = number_given s low high n h

  name_if : (s : Setting) (n : Option Text) → IsNameIfGiven gs s n → IsNameIfGiven hs s n
  name_if s None h = m.lacks s h
  name_if s (Some x) h = (m.has s x h.0, h.1)

  flag_if : (s : Setting) (b : Bool) → IsFlagIfGiven gs s b → IsFlagIfGiven hs s b
  flag_if s true h = m.has s [] h
  flag_if s false h = m.lacks s h

  set : (s least : Setting) (a : Allowed) → IsSet gs s least a → IsSet hs s least a
  set s least a (inl h) = inl (record { word = h.word; alone = m.lacks least h.alone; has = m.has s h.word h.has; is_set = h.is_set })
  set s least a (inr h) = inr (record { first = h.first; alone = m.lacks s h.alone; is_first = number_or least 1 36 3 h.first h.is_first; is_set = h.is_set })

  run : (pace : Pace) (pause : Option ℕ) → IsRun gs pace pause → IsRun hs pace pause
  run pace pause h = record {
    workers_are = number_or Workers 1 64 1 pace.workers h.workers_are;
    round_is = number_or Round 1 4096 64 pace.round h.round_is;
    pause_is = number_if Pause 1 1000000000 pause h.pause_is;
  }

  requested : (n : Text) (q : Request) → IsRequested n gs q → IsRequested n hs q
  requested n q h = record {
    chambers = h.chambers;
    tiles = number_or Tiles 1 36 0 q.tiles h.tiles;
    vertices = number_or Vertices 1 36 0 q.vertices h.vertices;
    faces = set Faces LeastFace q.faces h.faces;
    degrees = set Degrees LeastDegree q.degrees h.degrees;
    minimal = flag_if Minimal q.minimal h.minimal;
  }

  framed : (f : Option Frame) → IsFramed gs f → IsFramed hs f
  framed f (inl h) = inl (m.lacks Cell h.0, h.1)
  framed f (inr h) = inr (record { word = h.word; has = m.has Cell h.word h.has; is = h.is })

  catalogue : (n : Text) (q : Request) (pace : Pace) (pause : Option ℕ) (checkpoint : Option Text) → IsCatalogue n gs q pace pause checkpoint
      → IsCatalogue n hs q pace pause checkpoint
  catalogue n q pace pause checkpoint h = record {
    request = requested n q h.request;
    run = run pace pause h.run;
    checkpoint_is = name_if Checkpoint checkpoint h.checkpoint_is;
    resumable = h.resumable;
  }

  pub said : (c : Command) (xs : List Text) → IsSaid c xs gs → IsSaid c xs hs
  said (command.Catalogue q pace pause checkpoint) (n ∷ []) h = catalogue n q pace pause checkpoint h
  said (command.Shard shard q pace pause checkpoint) (i ∷ m ∷ n ∷ []) h = record { shard_is = h.shard_is; catalogue = catalogue n q pace pause checkpoint h.catalogue }
  said (command.Shard shard q pace pause checkpoint) [] h = elim h [ ]
  said (command.Shard shard q pace pause checkpoint) (i ∷ []) h = elim h [ ]
  said (command.Shard shard q pace pause checkpoint) (i ∷ m ∷ []) h = elim h [ ]
  said (command.Shard shard q pace pause checkpoint) (i ∷ m ∷ n ∷ x ∷ xs) h = elim h [ ]
  said (command.ResumeShard name pace pause) (word ∷ []) h = record { same = h.same; is_name = h.is_name; run = run pace pause h.run }
  said (command.ResumeShard name pace pause) [] h = elim h [ ]
  said (command.ResumeShard name pace pause) (word ∷ x ∷ xs) h = elim h [ ]
  said (command.Resume name pace pause) (word ∷ []) h = record { same = h.same; is_name = h.is_name; run = run pace pause h.run }
  said (command.Draw file frame) (word ∷ []) h = record { same = h.same; is_name = h.is_name; frame_is = framed frame h.frame_is }
  said (command.Catalogue q pace pause checkpoint) [] h = elim h [ ]
  said (command.Catalogue q pace pause checkpoint) (n ∷ x ∷ xs) h = elim h [ ]
  said (command.Resume name pace pause) [] h = elim h [ ]
  said (command.Resume name pace pause) (word ∷ x ∷ xs) h = elim h [ ]
  said (command.Draw file frame) [] h = elim h [ ]
  said (command.Draw file frame) (word ∷ x ∷ xs) h = elim h [ ]
  said (command.Exercise start count) xs h = h
  said (command.Apply word file) xs h = h
  said (command.Merge files) xs h = h
  said (command.File kind file) xs h = h
