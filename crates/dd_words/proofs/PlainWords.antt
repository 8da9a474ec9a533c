-- Arguments and values of a command begin with no dash.
use Rattle.std.proofs.Common.{◌≡◌, ◌≢◌, ◌++◌, ◌==◌, ℕ, inl, inr, true, cond, Option, Some, None, List, [], ◌∷◌, refl, sym, ap, subst, arith}
use Rattle.std.specs.Char.{IsAsciiDigit}
use Rattle.std.specs.List.{AllByRecursion, onto_first}
use Rattle.std.proofs.lemmas.List.Elements.{All-get_or}
use Rattle.dd_model.specs.declared.allowed.Allowed.{Allowed}
use Rattle.dd_words.specs.declared.settings.Setting.{Setting}
use Rattle.dd_words.specs.declared.settings.Setting.TheVariants.{Tiles, Vertices, LeastFace, LeastDegree, Faces, Degrees, Minimal, Workers, Round, Pause, Checkpoint, Cell}
use Rattle.dd_words.specs.declared.commands.Command.{Command}
use Rattle.dd_words.specs.declared.commands.Command.TheVariants as command
use Rattle.dd_model.specs.declared.frame.Frame.{Frame}
use Rattle.dd_model.specs.declared.frame.Frame.TheVariants.{Square, Hex, Own}
use Rattle.dd_opword.specs.Words.{byte_of, IsSpelled}
use Rattle.dd_opword.specs.declared.letters.Letter.{Letter}
use Rattle.dd_opword.specs.declared.letters.Letter.TheVariants.{Dual, Ambo, Truncate, Chamfer}
use Rattle.dd_opword.specs.declared.words.OpWord.{OpWord}
use Rattle.dd_opword.specs.declared.words.OpWord.TheVariants.{One, Two, Three}
use Rattle.dd_words.specs.Values.{Text, IsNumber, AreBounds, AsksForNumbers, IsSetWord, IsName, items_of}
use Rattle.dd_words.specs.Layout.{IsPlain}
use Rattle.dd_words.specs.Given.{Given, AreSingle, Has}
use Rattle.dd_model.specs.declared.requests.Request.{Request}
use Rattle.dd_words.specs.SettingNames.{is_of_catalogue, is_of_run, has_setting, has_value}
use Rattle.dd_words.specs.Grammar.{IsRun, IsCatalogue, IsSaid}
use Rattle.dd_words.specs.GivenValues.{IsNumberOr, IsNumberIfGiven, IsNameIfGiven, IsSet, IsFramed, IsShapeWord}
use Rattle.dd_words.specs.FirstWords.{verb_of}
use Rattle.dd_front_jobs.specs.declared.pace.Pace.{Pace}
use Rattle.dd_words.proofs.OneValue.{not_both, same_value, only_number}

digit_is_no_dash : (b : ℕ) → IsAsciiDigit b → b ≢ 45
digit_is_no_dash b h e = omega arith

number_plain : (w : Text) (n : ℕ) → IsNumber w n → IsPlain w
number_plain [] n h = tt
number_plain (b ∷ bs) n h = digit_is_no_dash b (All-get_or IsAsciiDigit (b ∷ bs) 0 b (omega arith) h.digits)

pub name_plain : (w : Text) → IsName w → IsPlain w
name_plain [] h = tt
name_plain (b ∷ bs) h = h

-- a list of digits and more
front_plain : (w rest : Text) (n : ℕ) → IsNumber w n → IsPlain (w ++ rest)
front_plain [] rest n h = absurd (let some = h.some in omega arith)
front_plain (b ∷ bs) rest n h = digit_is_no_dash b (All-get_or IsAsciiDigit (b ∷ bs) 0 b (omega arith) h.digits)

item_plain : (w : Text) → AsksForNumbers w → IsPlain w
item_plain w h = go h.item.bounds
  where
    go : AreBounds h.low h.high w → IsPlain w
    go (inl b) = number_plain w h.low b.0
    go (inr r) = subst IsPlain (sym r.spelled) (front_plain r.from (45 ∷ r.to) h.low r.is_from)

-- the first item begins as the word does
first_item : (b : ℕ) (items : List Text) → AllByRecursion AsksForNumbers (onto_first b items) → b ≢ 45
first_item b [] h = item_plain (b ∷ []) h.0
first_item b (x ∷ xs) h = item_plain (b ∷ x) h.0

set_plain : (w : Text) (a : Allowed) → IsSetWord w a → IsPlain w
set_plain [] a h = tt
set_plain (b ∷ bs) a h = λ e. first_item b (items_of bs) (split e h.items) e
  where
    split : b ≡ 45 → AllByRecursion AsksForNumbers (items_of (b ∷ bs)) → AllByRecursion AsksForNumbers (onto_first b (items_of bs))
    split e all = subst (λ t. AllByRecursion AsksForNumbers (cond t ([] ∷ items_of bs) (onto_first b (items_of bs)))) (ap (λ z. z == 44) e) all

letter_is_no_dash : (l : Letter) → byte_of l ≢ 45
letter_is_no_dash Dual e = absurd (omega (arith, e))
letter_is_no_dash Ambo e = absurd (omega (arith, e))
letter_is_no_dash Truncate e = absurd (omega (arith, e))
letter_is_no_dash Chamfer e = absurd (omega (arith, e))

op_word_plain : (w : Text) (v : OpWord) → IsSpelled w v → IsPlain w
op_word_plain w (One x) h = subst IsPlain (sym h) (letter_is_no_dash x)
op_word_plain w (Two x y) h = subst IsPlain (sym h) (letter_is_no_dash x)
op_word_plain w (Three x y z) h = subst IsPlain (sym h) (letter_is_no_dash x)

frame_plain : (w : Text) (f : Option Frame) → IsShapeWord w f → IsPlain w
frame_plain w (Some Square) is = subst IsPlain (sym is) (λ e. absurd (omega (arith, e)))
frame_plain w (Some Hex) is = subst IsPlain (sym is) (λ e. absurd (omega (arith, e)))
frame_plain w (Some (Own p q)) is = absurd is
frame_plain w None is = subst IsPlain (sym is) (λ e. absurd (omega (arith, e)))

module _ (gs : List Given) (single : AreSingle gs) where
  or_plain : (s : Setting) (low high default n : ℕ) (x : Text) → IsNumberOr gs s low high default n → Has gs s x → IsPlain x
  or_plain s low high default n x h has = number_plain x n (only_number gs s low high default n x single has h).number

  if_plain : (s : Setting) (low high : ℕ) (n : Option ℕ) (x : Text) → IsNumberIfGiven gs s low high n → Has gs s x → IsPlain x
  if_plain s low high None x h has = absurd (not_both gs s x has h)
  if_plain s low high (Some n) x h has = subst IsPlain (same_value gs s h.word x single h.has has) (number_plain h.word n h.number.number)

  name_if_plain : (s : Setting) (n : Option Text) (x : Text) → IsNameIfGiven gs s n → Has gs s x → IsPlain x
  name_if_plain s None x h has = absurd (not_both gs s x has h)
  name_if_plain s (Some n) x h has = subst IsPlain (same_value gs s n x single h.0 has) (name_plain n h.1)

  items_plain : (s least : Setting) (a : Allowed) (x : Text) → IsSet gs s least a → Has gs s x → IsPlain x
  items_plain s least a x (inl h) has = subst IsPlain (same_value gs s h.word x single h.has has) (set_plain h.word a h.is_set)
  items_plain s least a x (inr h) has = absurd (not_both gs s x has h.alone)

  least_plain : (s least : Setting) (a : Allowed) (x : Text) → IsSet gs s least a → Has gs least x → IsPlain x
  least_plain s least a x (inl h) has = absurd (not_both gs least x has h.alone)
  least_plain s least a x (inr h) has = or_plain least 1 36 3 h.first x h.is_first has

  cell_plain : (f : Option Frame) (x : Text) → IsFramed gs f → Has gs Cell x → IsPlain x
  cell_plain f x (inl h) has = absurd (not_both gs Cell x has h.0)
  cell_plain f x (inr h) has = subst IsPlain (same_value gs Cell h.word x single h.has has) (frame_plain h.word f h.is)

  run_plain : (s : Setting) (pace : Pace) (pause : Option ℕ) (x : Text) → IsRun gs pace pause → is_of_run s ≡ true → Has gs s x → IsPlain x
  run_plain Workers pace pause x h o has = or_plain Workers 1 64 1 pace.workers x h.workers_are has
  run_plain Round pace pause x h o has = or_plain Round 1 4096 64 pace.round x h.round_is has
  run_plain Pause pace pause x h o has = if_plain Pause 1 1000000000 pause x h.pause_is has
  run_plain Tiles pace pause x h o has = absurd (cc)
  run_plain Vertices pace pause x h o has = absurd (cc)
  run_plain LeastFace pace pause x h o has = absurd (cc)
  run_plain LeastDegree pace pause x h o has = absurd (cc)
  run_plain Faces pace pause x h o has = absurd (cc)
  run_plain Degrees pace pause x h o has = absurd (cc)
  run_plain Minimal pace pause x h o has = absurd (cc)
  run_plain Checkpoint pace pause x h o has = absurd (cc)
  run_plain Cell pace pause x h o has = absurd (cc)

  -- the value of each setting of a catalogue
  catalogue_plain : (n : Text) (q : Request) (pace : Pace) (pause : Option ℕ) (checkpoint : Option Text) → IsCatalogue n gs q pace pause checkpoint → (s : Setting) (x : Text)
      → is_of_catalogue s ≡ true → has_value s ≡ true → Has gs s x → IsPlain x
  catalogue_plain n q pace pause checkpoint h Tiles x o v has = or_plain Tiles 1 36 0 q.tiles x h.request.tiles has
  catalogue_plain n q pace pause checkpoint h Vertices x o v has = or_plain Vertices 1 36 0 q.vertices x h.request.vertices has
  catalogue_plain n q pace pause checkpoint h LeastFace x o v has = least_plain Faces LeastFace q.faces x h.request.faces has
  catalogue_plain n q pace pause checkpoint h LeastDegree x o v has = least_plain Degrees LeastDegree q.degrees x h.request.degrees has
  catalogue_plain n q pace pause checkpoint h Faces x o v has = items_plain Faces LeastFace q.faces x h.request.faces has
  catalogue_plain n q pace pause checkpoint h Degrees x o v has = items_plain Degrees LeastDegree q.degrees x h.request.degrees has
  catalogue_plain n q pace pause checkpoint h Minimal x o v has = absurd (cc)
  catalogue_plain n q pace pause checkpoint h Workers x o v has = run_plain Workers pace pause x h.run refl has
  catalogue_plain n q pace pause checkpoint h Round x o v has = run_plain Round pace pause x h.run refl has
  catalogue_plain n q pace pause checkpoint h Pause x o v has = run_plain Pause pace pause x h.run refl has
  catalogue_plain n q pace pause checkpoint h Checkpoint x o v has = name_if_plain Checkpoint checkpoint x h.checkpoint_is has
  catalogue_plain n q pace pause checkpoint h Cell x o v has = absurd (cc)

  -- the value of each setting
  pub value_plain : (c : Command) (xs : List Text) → IsSaid c xs gs → (s : Setting) (x : Text) → has_setting (verb_of c) s ≡ true → has_value s ≡ true → Has gs s x → IsPlain x
  value_plain (command.Catalogue q pace pause checkpoint) (n ∷ []) h s x o v has = catalogue_plain n q pace pause checkpoint h s x o v has
  value_plain (command.Catalogue q pace pause checkpoint) [] h s x o v has = elim h [ ]
  value_plain (command.Catalogue q pace pause checkpoint) (n ∷ m ∷ ns) h s x o v has = elim h [ ]
  value_plain (command.Resume name pace pause) (word ∷ []) h s x o v has = run_plain s pace pause x h.run o has
  value_plain (command.Resume name pace pause) [] h s x o v has = elim h [ ]
  value_plain (command.Resume name pace pause) (n ∷ m ∷ ns) h s x o v has = elim h [ ]
  value_plain (command.Shard shard q pace pause checkpoint) (i ∷ m ∷ n ∷ []) h s x o v has = catalogue_plain n q pace pause checkpoint h.catalogue s x o v has
  value_plain (command.Shard shard q pace pause checkpoint) [] h s x o v has = elim h [ ]
  value_plain (command.Shard shard q pace pause checkpoint) (i ∷ []) h s x o v has = elim h [ ]
  value_plain (command.Shard shard q pace pause checkpoint) (i ∷ m ∷ []) h s x o v has = elim h [ ]
  value_plain (command.Shard shard q pace pause checkpoint) (i ∷ m ∷ n ∷ l ∷ ns) h s x o v has = elim h [ ]
  value_plain (command.ResumeShard name pace pause) (word ∷ []) h s x o v has = run_plain s pace pause x h.run o has
  value_plain (command.ResumeShard name pace pause) [] h s x o v has = elim h [ ]
  value_plain (command.ResumeShard name pace pause) (n ∷ m ∷ ns) h s x o v has = elim h [ ]
  value_plain (command.Draw file frame) (word ∷ []) h Tiles x o v has = absurd (cc)
  value_plain (command.Draw file frame) (word ∷ []) h Vertices x o v has = absurd (cc)
  value_plain (command.Draw file frame) (word ∷ []) h LeastFace x o v has = absurd (cc)
  value_plain (command.Draw file frame) (word ∷ []) h LeastDegree x o v has = absurd (cc)
  value_plain (command.Draw file frame) (word ∷ []) h Faces x o v has = absurd (cc)
  value_plain (command.Draw file frame) (word ∷ []) h Degrees x o v has = absurd (cc)
  value_plain (command.Draw file frame) (word ∷ []) h Minimal x o v has = absurd (cc)
  value_plain (command.Draw file frame) (word ∷ []) h Workers x o v has = absurd (cc)
  value_plain (command.Draw file frame) (word ∷ []) h Round x o v has = absurd (cc)
  value_plain (command.Draw file frame) (word ∷ []) h Pause x o v has = absurd (cc)
  value_plain (command.Draw file frame) (word ∷ []) h Checkpoint x o v has = absurd (cc)
  value_plain (command.Draw file frame) (word ∷ []) h Cell x o v has = cell_plain frame x h.frame_is has
  value_plain (command.Draw file frame) [] h s x o v has = elim h [ ]
  value_plain (command.Draw file frame) (n ∷ m ∷ ns) h s x o v has = elim h [ ]
  value_plain (command.Exercise start count) xs h s x o v has = absurd (cc)
  value_plain (command.Apply word file) xs h s x o v has = absurd (cc)
  value_plain (command.Merge files) xs h s x o v has = absurd (cc)
  value_plain (command.File kind file) xs h s x o v has = absurd (cc)

names_plain : (ws : List Text) → AllByRecursion IsName ws → AllByRecursion IsPlain ws
names_plain [] all = tt
names_plain (w ∷ ws) all = (name_plain w all.0, names_plain ws all.1)

-- the arguments
pub argument_plain : (c : Command) (xs : List Text) (gs : List Given) → IsSaid c xs gs → AllByRecursion IsPlain xs
argument_plain (command.Catalogue q pace pause checkpoint) (n ∷ []) gs h = (number_plain n q.chambers h.request.chambers.number, tt)
argument_plain (command.Catalogue q pace pause checkpoint) [] gs h = tt
argument_plain (command.Catalogue q pace pause checkpoint) (n ∷ m ∷ ns) gs h = elim h [ ]
argument_plain (command.Resume name pace pause) (word ∷ []) gs h = (name_plain word (subst IsName (sym h.same) h.is_name), tt)
argument_plain (command.Resume name pace pause) [] gs h = tt
argument_plain (command.Resume name pace pause) (n ∷ m ∷ ns) gs h = elim h [ ]
argument_plain (command.Shard shard q pace pause checkpoint) (i ∷ m ∷ n ∷ []) gs h =
    (number_plain i shard.index h.shard_is.index.number, (number_plain m shard.count h.shard_is.count.number, (number_plain n q.chambers h.catalogue.request.chambers.number, tt)))
argument_plain (command.Shard shard q pace pause checkpoint) [] gs h = tt
argument_plain (command.Shard shard q pace pause checkpoint) (i ∷ []) gs h = elim h [ ]
argument_plain (command.Shard shard q pace pause checkpoint) (i ∷ m ∷ []) gs h = elim h [ ]
argument_plain (command.Shard shard q pace pause checkpoint) (i ∷ m ∷ n ∷ o ∷ ns) gs h = elim h [ ]
argument_plain (command.ResumeShard name pace pause) (word ∷ []) gs h = (name_plain word (subst IsName (sym h.same) h.is_name), tt)
argument_plain (command.ResumeShard name pace pause) [] gs h = tt
argument_plain (command.ResumeShard name pace pause) (n ∷ m ∷ ns) gs h = elim h [ ]
argument_plain (command.Draw file frame) (word ∷ []) gs h = (name_plain word (subst IsName (sym h.same) h.is_name), tt)
argument_plain (command.Draw file frame) [] gs h = tt
argument_plain (command.Draw file frame) (n ∷ m ∷ ns) gs h = elim h [ ]
argument_plain (command.Exercise start count) (first ∷ second ∷ []) gs h = (number_plain first start h.start_is.number, (number_plain second count h.count_is.number, tt))
argument_plain (command.Exercise start count) [] gs h = tt
argument_plain (command.Exercise start count) (n ∷ []) gs h = elim h [ ]
argument_plain (command.Exercise start count) (n ∷ m ∷ o ∷ ns) gs h = elim h [ ]
argument_plain (command.Apply w file) (first ∷ second ∷ []) gs h = (op_word_plain first w h.word_is, (name_plain second (subst IsName (sym h.same) h.is_name), tt))
argument_plain (command.Apply w file) [] gs h = tt
argument_plain (command.Apply w file) (n ∷ []) gs h = elim h [ ]
argument_plain (command.Apply w file) (n ∷ m ∷ o ∷ ns) gs h = elim h [ ]
argument_plain (command.Merge files) xs gs h = names_plain xs h.are_names
argument_plain (command.File kind file) (word ∷ []) gs h = (name_plain word (subst IsName (sym h.same) h.is_name), tt)
argument_plain (command.File kind file) [] gs h = tt
argument_plain (command.File kind file) (n ∷ m ∷ ns) gs h = elim h [ ]
