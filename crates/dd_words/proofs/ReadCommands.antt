-- What a verb, its arguments and settings ask for.
use Rattle.std.proofs.Common.{◌≡◌, ◌≤◌, ◌<◌, ℕ, zero, suc, ◌+◌, List, [], ◌∷◌, ◌++◌, length, take, get_or, Option, Some, None, Bool, true, not, Bor, rules, refl, sym, ap, ◌∙◌, subst, arith}
use Rattle.std.specs.Prelude.{IsSome, is_some}
use Rattle.std.proofs.lemmas.List.{length-map, map_more}
use Rattle.dd_model.specs.declared.requests.Request.{Request}
use Rattle.dd_model.proofs.Lists.{cons_head, cons_tail}
use Rattle.dd_front_jobs.specs.declared.pace.Pace.{Pace}
use Rattle.dd_front_jobs.specs.declared.shards.Shard.{Shard}
use Rattle.dd_front_jobs.proofs.PaceLaws.{same_pace}
use Rattle.dd_front_jobs.proofs.ShardLaws.{same_shard}
use Rattle.dd_opword.specs.declared.words.OpWord.{OpWord}
use Rattle.dd_opword.proofs.SpelledWords.{one_op_word}
use Rattle.dd_words.specs.declared.commands.Command.{Command}
use Rattle.dd_words.specs.declared.commands.Command.TheVariants as command
use Rattle.dd_model.specs.declared.frame.Frame.{Frame}
use Rattle.dd_words.specs.declared.commands.FileKind.{FileKind}
use Rattle.dd_words.specs.declared.settings.Setting.TheVariants.{Pause, Checkpoint}
use Rattle.dd_words.specs.declared.verbs.Verb.{Verb}
use Rattle.dd_words.specs.declared.verbs.Verb.TheVariants as verb
use Rattle.std.specs.List.{AllByRecursion}
use Rattle.dd_words.specs.Values.{Text, IsName}
use Rattle.dd_words.specs.Layout.{IsLaid}
use Rattle.dd_words.specs.Given.{Given, AreSingle}
use Rattle.dd_words.specs.Laying.{texts}
use Rattle.dd_words.specs.Grammar.{IsRun, IsCatalogue, IsSharded, IsResumed, IsDrawn, IsOnFile, IsRequested, IsSaid, IsCommand, OnOne, OnTwo, OnThree}
use Rattle.dd_words.specs.GivenValues.{IsNumberIfGiven, IsNameIfGiven}
use Rattle.dd_words.specs.FirstWords.{first_word, verb_of}
use Rattle.dd_words.specs.Reading.{IsReadAs}
use Rattle.dd_words.proofs.Told.{same_verb}
use Rattle.dd_words.proofs.FrontWords.{same_laid}
use Rattle.dd_words.proofs.OneValue.{one_number_in, one_number, one_given, one_name, one_flag, one_set, one_frame}

-- a list of one text
pub one_text : (xs : List (Bor Text)) (d : Bor Text) → 1 ≤ length xs → length xs < 2 → texts xs ≡ (get_or xs 0 d).now ∷ []
one_text [] d low high = absurd (omega arith)
one_text (x ∷ []) d low high = refl
one_text (x ∷ y ∷ xs) d low high = absurd (omega arith)

pub record IsOneText (xs : List (Bor Text)) : Type 0 where
  pub text : Text
  pub is : texts xs ≡ text ∷ []

-- lists of three texts
pub two_and_third : (xs : List (Bor Text)) (d e : Bor Text) → 3 ≤ length xs → length xs < 4 → (third : Text) × (texts xs ≡ (get_or xs 0 d).now ∷ (get_or xs 1 e).now ∷ third ∷ [])
two_and_third (x ∷ y ∷ z ∷ []) d e low high = (z.now, refl)
two_and_third [] d e low high = absurd (omega arith)
two_and_third (x ∷ []) d e low high = absurd (omega arith)
two_and_third (x ∷ y ∷ []) d e low high = absurd (omega arith)
two_and_third (x ∷ y ∷ z ∷ v ∷ xs) d e low high = absurd (omega arith)

pub two_before_third : (xs : List (Bor Text)) (f : Bor Text) → 3 ≤ length xs → length xs < 4 → (first : Text) × (second : Text) × (texts xs ≡ first ∷ second ∷ (get_or xs 2 f).now ∷ [])
two_before_third (x ∷ y ∷ z ∷ []) f low high = (x.now, y.now, refl)
two_before_third [] f low high = absurd (omega arith)
two_before_third (x ∷ []) f low high = absurd (omega arith)
two_before_third (x ∷ y ∷ []) f low high = absurd (omega arith)
two_before_third (x ∷ y ∷ z ∷ v ∷ xs) f low high = absurd (omega arith)

pub two_texts : (xs : List (Bor Text)) (d e : Bor Text) → 2 ≤ length xs → length xs < 3 → texts xs ≡ (get_or xs 0 d).now ∷ (get_or xs 1 e).now ∷ []
two_texts (x ∷ y ∷ []) d e low high = refl
two_texts [] d e low high = absurd (omega arith)
two_texts (x ∷ []) d e low high = absurd (omega arith)
two_texts (x ∷ y ∷ z ∷ xs) d e low high = absurd (omega arith)

pub three_texts : (xs : List (Bor Text)) (d e f : Bor Text) → 3 ≤ length xs → length xs < 4
    → texts xs ≡ (get_or xs 0 d).now ∷ (get_or xs 1 e).now ∷ (get_or xs 2 f).now ∷ []
three_texts (x ∷ y ∷ z ∷ []) d e f low high = refl
three_texts [] d e f low high = absurd (omega arith)
three_texts (x ∷ []) d e f low high = absurd (omega arith)
three_texts (x ∷ y ∷ []) d e f low high = absurd (omega arith)
three_texts (x ∷ y ∷ z ∷ v ∷ xs) d e f low high = absurd (omega arith)

pub some_one_text : (xs : List (Bor Text)) → 1 ≤ length xs → length xs < 2 → IsOneText xs
some_one_text [] low high = absurd (omega arith)
some_one_text (x ∷ []) low high = record { text = x.now; is = refl }
some_one_text (x ∷ y ∷ xs) low high = absurd (omega arith)

-- how many arguments a verb has
abbrev HasCount : Verb → ℕ → Type 0
HasCount verb.Shard n = n ≡ 3
HasCount verb.Exercise n = n ≡ 2
HasCount verb.Apply n = n ≡ 2
HasCount verb.Merge n = Unit {0}
HasCount v n = n ≡ 1

one_only : (xs : List Text) (P : Text → Type 0) → OnOne xs P → length xs ≡ 1
one_only [] P h = absurd h
one_only (x ∷ []) P h = refl
one_only (x ∷ y ∷ xs) P h = absurd h

two_only : (xs : List Text) (P : Text → Text → Type 0) → OnTwo xs P → length xs ≡ 2
two_only [] P h = absurd h
two_only (x ∷ []) P h = absurd h
two_only (x ∷ y ∷ []) P h = refl
two_only (x ∷ y ∷ z ∷ xs) P h = absurd h

three_only : (xs : List Text) (P : Text → Text → Text → Type 0) → OnThree xs P → length xs ≡ 3
three_only [] P h = absurd h
three_only (x ∷ []) P h = absurd h
three_only (x ∷ y ∷ []) P h = absurd h
three_only (x ∷ y ∷ z ∷ []) P h = refl
three_only (x ∷ y ∷ z ∷ w ∷ xs) P h = absurd h

counted : (c : Command) (xs : List Text) (ss : List Given) → IsSaid c xs ss → HasCount (verb_of c) (length xs)
counted (command.Catalogue q pace pause checkpoint) xs ss h = one_only xs _ h
counted (command.Resume name pace pause) xs ss h = one_only xs _ h
counted (command.Shard shard q pace pause checkpoint) xs ss h = three_only xs _ h
counted (command.ResumeShard name pace pause) xs ss h = one_only xs _ h
counted (command.Draw file frame) xs ss h = one_only xs _ h
counted (command.Exercise start count) xs ss h = two_only xs _ h
counted (command.Apply word file) xs ss h = two_only xs _ h
counted (command.Merge files) xs ss h = tt
counted (command.File kind file) xs ss h = one_only xs _ h

pub has_count : (v : Verb) (xs : List (Bor Text)) (ss : List Given) (c : Command) → IsReadAs v (texts xs) ss c → HasCount v (length xs)
has_count v xs ss c h = subst (HasCount v) (length-map xs (λ text. text.now)) (subst (λ u. HasCount u (length (texts xs))) h.verb_is (counted c (texts xs) ss h.said))

-- what is said with these arguments
pub read_as : (v : Verb) (xs ys : List Text) (ss : List Given) (c : Command) → xs ≡ ys → verb_of c ≡ v → IsSaid c ys ss → IsReadAs v xs ss c
read_as v xs ys ss c e is said = record { verb_is = is; said = subst (λ zs. IsSaid c zs ss) (sym e) said }

pub no_catalogue : (xs : List Text) (ss : List Given) (w : Text) → xs ≡ w ∷ []
    → ((q : Request) (pace : Pace) (pause : Option ℕ) (checkpoint : Option Text) → IsCatalogue w ss q pace pause checkpoint → ⊥)
    → (c : Command) → IsReadAs verb.Catalogue xs ss c → ⊥
no_catalogue xs ss w e none (command.Catalogue q pace pause checkpoint) h =
    none q pace pause checkpoint (subst (λ ys. IsSaid (command.Catalogue q pace pause checkpoint) ys ss) e h.said)
no_catalogue xs ss w e none other h = let same = h.verb_is in absurd (cc)

pub no_resume : (xs : List Text) (ss : List Given) (w : Text) → xs ≡ w ∷ []
    → ((name : Text) (pace : Pace) (pause : Option ℕ) → IsResumed w ss name pace pause → ⊥)
    → (c : Command) → IsReadAs verb.Resume xs ss c → ⊥
no_resume xs ss w e none (command.Resume name pace pause) h =
    none name pace pause (subst (λ ys. IsSaid (command.Resume name pace pause) ys ss) e h.said)
no_resume xs ss w e none other h = let same = h.verb_is in absurd (cc)

pub no_shard : (xs : List Text) (ss : List Given) (i m n : Text) → xs ≡ i ∷ m ∷ n ∷ []
    → ((shard : Shard) (q : Request) (pace : Pace) (pause : Option ℕ) (checkpoint : Option Text) → IsSharded i m n ss shard q pace pause checkpoint → ⊥)
    → (c : Command) → IsReadAs verb.Shard xs ss c → ⊥
no_shard xs ss i m n e none (command.Shard shard q pace pause checkpoint) h =
    none shard q pace pause checkpoint (subst (λ ys. IsSaid (command.Shard shard q pace pause checkpoint) ys ss) e h.said)
no_shard xs ss i m n e none other h = let same = h.verb_is in absurd (cc)

pub no_resumed_shard : (xs : List Text) (ss : List Given) (w : Text) → xs ≡ w ∷ []
    → ((name : Text) (pace : Pace) (pause : Option ℕ) → IsResumed w ss name pace pause → ⊥)
    → (c : Command) → IsReadAs verb.ResumeShard xs ss c → ⊥
no_resumed_shard xs ss w e none (command.ResumeShard name pace pause) h =
    none name pace pause (subst (λ ys. IsSaid (command.ResumeShard name pace pause) ys ss) e h.said)
no_resumed_shard xs ss w e none other h = let same = h.verb_is in absurd (cc)

pub no_drawing : (xs : List Text) (ss : List Given) (w : Text) → xs ≡ w ∷ []
    → ((file : Text) (frame : Option Frame) → IsDrawn w ss file frame → ⊥)
    → (c : Command) → IsReadAs verb.Draw xs ss c → ⊥
no_drawing xs ss w e none (command.Draw file frame) h = none file frame (subst (λ ys. IsSaid (command.Draw file frame) ys ss) e h.said)
no_drawing xs ss w e none other h = let same = h.verb_is in absurd (cc)

pub no_file : (kind : FileKind) (xs : List Text) (ss : List Given) (w : Text) → xs ≡ w ∷ [] → ((file : Text) → IsOnFile w file → ⊥)
    → (c : Command) → IsReadAs (verb.File kind) xs ss c → ⊥
no_file kind xs ss w e none (command.File other file) h = none file (subst (λ ys. IsSaid (command.File other file) ys ss) e h.said)
no_file kind xs ss w e none other h = let same = h.verb_is in absurd (cc)

-- a word at a place of a list of names
pub name_at : (ws : List (Bor Text)) (k : ℕ) (d : Bor Text) → k < length ws → AllByRecursion IsName (texts ws) → IsName (get_or ws k d).now
name_at [] k d low all = absurd (omega arith)
name_at (w ∷ ws) zero d low all = all.0
name_at (w ∷ ws) (suc k) d low all = name_at ws k d (omega arith) all.1

-- one name more
pub name_more : (ws : List (Bor Text)) (k : ℕ) (d : Bor Text) (old new : List Text) (name : Text) → k < length ws → (get_or ws k d).now ≡ name → new ≡ old ++ name ∷ []
    → texts (take k ws) ≡ old → texts (take (k + 1) ws) ≡ new
name_more ws k d old new name low same is before =
    map_more (λ text. text.now) ws k d low ∙ ap (λ xs. xs ++ (get_or ws k d).now ∷ []) before ∙ ap (λ x. old ++ x ∷ []) same ∙ sym is

pub some_told : {A : Type 0} (o : Option A) → is_some o ≡ true → IsSome o
some_told None e = absurd (cc)
some_told (Some x) e = search rules

pub none_told : {A : Type 0} (o : Option A) (none : Bool) → is_some o ≡ not none → none ≡ true → IsSome o → ⊥
none_told None none e f h = search rules
none_told (Some x) none e f h = absurd (cc)

-- no pause without a checkpoint
pub no_checkpoint : (ss : List Given) (w : Text) (pause : Option ℕ) (checkpoint : Option Text) → AreSingle ss → IsNumberIfGiven ss Pause 1 1000000000 pause
    → IsNameIfGiven ss Checkpoint checkpoint → IsSome pause → (IsSome checkpoint → ⊥)
    → (q : Request) (pace : Pace) (p : Option ℕ) (k : Option Text) → IsCatalogue w ss q pace p k → ⊥
no_checkpoint ss w pause checkpoint single a b some none q pace p k h =
    let pause_is : pause ≡ p = one_given ss Pause 1 1000000000 pause p single a h.run.pause_is in
    let checkpoint_is : k ≡ checkpoint = one_name ss Checkpoint k checkpoint single h.checkpoint_is b in
    none (subst IsSome checkpoint_is (h.resumable (subst IsSome pause_is some)))

-- the parts of a command's words, once the first word is known
pub record AreParts (v : Verb) (ws : List Text) (c : Command) : Type 0 where
  pub arguments : List Text
  pub settings : List Given
  pub laid : IsLaid v ws arguments settings
  pub single : AreSingle settings
  pub read : IsReadAs v arguments settings c

pub parts : (v : Verb) (w : Text) (ws : List Text) (c : Command) → w ≡ first_word v → IsCommand (w ∷ ws) c → AreParts v ws c
parts v w ws c e h =
    let verb_is : verb_of c ≡ v = same_verb (verb_of c) v (sym (cons_head w (first_word (verb_of c)) ws h.rest h.first) ∙ e) in
    let rest_is : h.rest ≡ ws = sym (cons_tail w (first_word (verb_of c)) ws h.rest h.first) in
    record {
      arguments = h.arguments;
      settings = h.settings;
      laid = subst (λ u. IsLaid u ws h.arguments h.settings) verb_is (subst (λ xs. IsLaid (verb_of c) xs h.arguments h.settings) rest_is h.laid);
      single = h.single;
      read = record { verb_is = verb_is; said = h.said };
    }

-- at most one command
one_request : (w : Text) (ss : List Given) (p q : Request) → AreSingle ss → IsRequested w ss p → IsRequested w ss q → p ≡ q
one_request w ss p q single a b = λ i. record {
  chambers = one_number_in 1 36 w p.chambers q.chambers a.chambers b.chambers i;
  tiles = one_number ss _ 1 36 0 p.tiles q.tiles single a.tiles b.tiles i;
  vertices = one_number ss _ 1 36 0 p.vertices q.vertices single a.vertices b.vertices i;
  faces = one_set ss _ _ p.faces q.faces single a.faces b.faces i;
  degrees = one_set ss _ _ p.degrees q.degrees single a.degrees b.degrees i;
  minimal = one_flag ss _ p.minimal q.minimal a.minimal b.minimal i;
}

one_pace : (ss : List Given) (v w : Pace) (o m : Option ℕ) → AreSingle ss → IsRun ss v o → IsRun ss w m → v ≡ w
one_pace ss v w o m single a b =
    same_pace v w (one_number ss _ 1 64 1 v.workers w.workers single a.workers_are b.workers_are) (one_number ss _ 1 4096 64 v.round w.round single a.round_is b.round_is)

-- what a catalogue and a shard have in common
pub record AreSame (p q : Request) (v w : Pace) (o m : Option ℕ) (k j : Option Text) : Type 0 where
  pub request : p ≡ q
  pub pace : v ≡ w
  pub pause : o ≡ m
  pub checkpoint : k ≡ j

one_asked : (x : Text) (ss : List Given) (p q : Request) (v w : Pace) (o m : Option ℕ) (k j : Option Text) → AreSingle ss → IsCatalogue x ss p v o k → IsCatalogue x ss q w m j
    → AreSame p q v w o m k j
one_asked x ss p q v w o m k j single a b = record {
  request = one_request x ss p q single a.request b.request;
  pace = one_pace ss v w o m single a.run b.run;
  pause = one_given ss _ 1 1000000000 o m single a.run.pause_is b.run.pause_is;
  checkpoint = one_name ss _ k j single a.checkpoint_is b.checkpoint_is;
}

one_catalogue : (xs : List Text) (ss : List Given) (p q : Request) (v w : Pace) (o m : Option ℕ) (k j : Option Text) → AreSingle ss
    → IsSaid (command.Catalogue p v o k) xs ss → IsSaid (command.Catalogue q w m j) xs ss → command.Catalogue p v o k ≡ command.Catalogue q w m j
one_catalogue (x ∷ []) ss p q v w o m k j single a b =
    let e = one_asked x ss p q v w o m k j single a b in
    λ i. command.Catalogue (e.request i) (e.pace i) (e.pause i) (e.checkpoint i)
one_catalogue [] ss p q v w o m k j single a b = absurd a
one_catalogue (x ∷ y ∷ xs) ss p q v w o m k j single a b = absurd a

one_shard : (xs : List Text) (ss : List Given) (f g : Shard) (p q : Request) (v w : Pace) (o m : Option ℕ) (k j : Option Text) → AreSingle ss
    → IsSaid (command.Shard f p v o k) xs ss → IsSaid (command.Shard g q w m j) xs ss → command.Shard f p v o k ≡ command.Shard g q w m j
one_shard (x ∷ y ∷ z ∷ []) ss f g p q v w o m k j single a b =
    let index = one_number_in 1 8 x f.index g.index a.shard_is.index b.shard_is.index in
    let count = one_number_in 1 8 y f.count g.count a.shard_is.count b.shard_is.count in
    let shard = same_shard f g index count in
    let e = one_asked z ss p q v w o m k j single a.catalogue b.catalogue in
    λ i. command.Shard (shard i) (e.request i) (e.pace i) (e.pause i) (e.checkpoint i)
one_shard [] ss f g p q v w o m k j single a b = absurd a
one_shard (x ∷ []) ss f g p q v w o m k j single a b = absurd a
one_shard (x ∷ y ∷ []) ss f g p q v w o m k j single a b = absurd a
one_shard (x ∷ y ∷ z ∷ more ∷ xs) ss f g p q v w o m k j single a b = absurd a

-- what a catalogue and a shard that are resumed have in common
pub record AreResumedSame (n k : Text) (v w : Pace) (o m : Option ℕ) : Type 0 where
  pub name : n ≡ k
  pub pace : v ≡ w
  pub pause : o ≡ m

one_resumed : (x : Text) (ss : List Given) (n k : Text) (v w : Pace) (o m : Option ℕ) → AreSingle ss → IsResumed x ss n v o → IsResumed x ss k w m → AreResumedSame n k v w o m
one_resumed x ss n k v w o m single a b = record {
  name = sym a.same ∙ b.same;
  pace = one_pace ss v w o m single a.run b.run;
  pause = one_given ss _ 1 1000000000 o m single a.run.pause_is b.run.pause_is;
}

one_resume : (xs : List Text) (ss : List Given) (n k : Text) (v w : Pace) (o m : Option ℕ) → AreSingle ss
    → IsSaid (command.Resume n v o) xs ss → IsSaid (command.Resume k w m) xs ss → command.Resume n v o ≡ command.Resume k w m
one_resume (x ∷ []) ss n k v w o m single a b =
    let e = one_resumed x ss n k v w o m single a b in
    λ i. command.Resume (e.name i) (e.pace i) (e.pause i)
one_resume [] ss n k v w o m single a b = absurd a
one_resume (x ∷ y ∷ xs) ss n k v w o m single a b = absurd a

one_resumed_shard : (xs : List Text) (ss : List Given) (n k : Text) (v w : Pace) (o m : Option ℕ) → AreSingle ss
    → IsSaid (command.ResumeShard n v o) xs ss → IsSaid (command.ResumeShard k w m) xs ss → command.ResumeShard n v o ≡ command.ResumeShard k w m
one_resumed_shard (x ∷ []) ss n k v w o m single a b =
    let e = one_resumed x ss n k v w o m single a b in
    λ i. command.ResumeShard (e.name i) (e.pace i) (e.pause i)
one_resumed_shard [] ss n k v w o m single a b = absurd a
one_resumed_shard (x ∷ y ∷ xs) ss n k v w o m single a b = absurd a

one_drawing : (xs : List Text) (ss : List Given) (f k : Text) (g j : Option Frame) → AreSingle ss
    → IsSaid (command.Draw f g) xs ss → IsSaid (command.Draw k j) xs ss → command.Draw f g ≡ command.Draw k j
one_drawing (x ∷ []) ss f k g j single a b =
    let file = sym a.same ∙ b.same in
    let frame = one_frame ss g j single a.frame_is b.frame_is in
    λ i. command.Draw (file i) (frame i)
one_drawing [] ss f k g j single a b = absurd a
one_drawing (x ∷ y ∷ xs) ss f k g j single a b = absurd a

one_exercise : (xs : List Text) (ss : List Given) (s n t m : ℕ) → IsSaid (command.Exercise s n) xs ss → IsSaid (command.Exercise t m) xs ss
    → command.Exercise s n ≡ command.Exercise t m
one_exercise (x ∷ y ∷ []) ss s n t m a b =
    let start = one_number_in 0 2147483647 x s t a.start_is b.start_is in
    let count = one_number_in 0 10000 y n m a.count_is b.count_is in
    λ i. command.Exercise (start i) (count i)
one_exercise [] ss s n t m a b = absurd a
one_exercise (x ∷ []) ss s n t m a b = absurd a
one_exercise (x ∷ y ∷ z ∷ xs) ss s n t m a b = absurd a

one_application : (xs : List Text) (ss : List Given) (w v : OpWord) (f k : Text) → IsSaid (command.Apply w f) xs ss → IsSaid (command.Apply v k) xs ss
    → command.Apply w f ≡ command.Apply v k
one_application (x ∷ y ∷ []) ss w v f k a b =
    let word = one_op_word x w v a.word_is b.word_is in
    let file = sym a.same ∙ b.same in
    λ i. command.Apply (word i) (file i)
one_application [] ss w v f k a b = absurd a
one_application (x ∷ []) ss w v f k a b = absurd a
one_application (x ∷ y ∷ z ∷ xs) ss w v f k a b = absurd a

one_merge : (xs : List Text) (ss : List Given) (f k : List Text) → IsSaid (command.Merge f) xs ss → IsSaid (command.Merge k) xs ss → command.Merge f ≡ command.Merge k
one_merge xs ss f k a b = ap command.Merge (sym a.same ∙ b.same)

one_file : (xs : List Text) (ss : List Given) (g j : FileKind) (f k : Text) → g ≡ j → IsSaid (command.File g f) xs ss → IsSaid (command.File j k) xs ss
    → command.File g f ≡ command.File j k
one_file (x ∷ []) ss g j f k kind a b =
    let file = sym a.same ∙ b.same in
    λ i. command.File (kind i) (file i)
one_file [] ss g j f k kind a b = absurd a
one_file (x ∷ y ∷ xs) ss g j f k kind a b = absurd a

same_kind : (g j : FileKind) → verb.File g ≡ verb.File j → g ≡ j
same_kind g j e = cc

one_said : (xs : List Text) (ss : List Given) (c d : Command) → AreSingle ss → verb_of c ≡ verb_of d → IsSaid c xs ss → IsSaid d xs ss → c ≡ d
one_said xs ss (command.Catalogue p v o k) (command.Catalogue q w m j) single e a b = one_catalogue xs ss p q v w o m k j single a b
one_said xs ss (command.Resume n v o) (command.Resume k w m) single e a b = one_resume xs ss n k v w o m single a b
one_said xs ss (command.Shard f p v o k) (command.Shard g q w m j) single e a b = one_shard xs ss f g p q v w o m k j single a b
one_said xs ss (command.ResumeShard n v o) (command.ResumeShard k w m) single e a b = one_resumed_shard xs ss n k v w o m single a b
one_said xs ss (command.Draw f g) (command.Draw k j) single e a b = one_drawing xs ss f k g j single a b
one_said xs ss (command.Exercise s n) (command.Exercise t m) single e a b = one_exercise xs ss s n t m a b
one_said xs ss (command.Apply w f) (command.Apply v k) single e a b = one_application xs ss w v f k a b
one_said xs ss (command.Merge f) (command.Merge k) single e a b = one_merge xs ss f k a b
one_said xs ss (command.File g f) (command.File j k) single e a b = one_file xs ss g j f k (same_kind g j e) a b
one_said xs ss c d single e a b = absurd (cc)

pub one_command : (ws : List Text) (c d : Command) → IsCommand ws c → IsCommand ws d → c ≡ d
one_command ws c d a b =
    let p = parts (verb_of c) (first_word (verb_of c)) a.rest d refl (subst (λ xs. IsCommand xs d) a.first b) in
    let same = same_laid (verb_of c) a.rest p.arguments a.arguments p.settings a.settings p.laid a.laid in
    let said = subst (λ ts. IsSaid d a.arguments ts) same.1 (subst (λ ys. IsSaid d ys p.settings) same.0 p.read.said) in
    one_said a.arguments a.settings c d a.single (sym p.read.verb_is) a.said said
