-- Files have one merged text at most, and none where they are refused.
use Rattle.std.proofs.Common.{◌≡◌, ℕ, zero, suc, ◌+◌, ◌<◌, List, [], ◌∷◌, ◌++◌, length, length-append, take, get_or, take-suc, Result, Ok, Err, refl, sym, ap, ◌∙◌, subst, inl, arith}
use Rattle.std.specs.Prelude.{IfErr}
use Rattle.std.specs.Result.{IsErrAnd}
use Rattle.std.proofs.lemmas.List.{append-nil, get_or_default, get_or-map, length-map, map-append, take_all}
use Rattle.std.specs.Global.{Global}
use Rattle.std.specs.declared.vec.Vec.{Vec}
use Rattle.std.specs.List.{AllByRecursion, Contains}
use Rattle.dd_model.specs.Symbol.{Symbol}
use Rattle.dd_model.specs.Text.{AreLines}
use Rattle.dd_model.specs.Reading.{Reads}
use Rattle.dd_model.proofs.AscendingFronts.{begins_with}
use Rattle.dd_model.proofs.ReadingRows.{reads_once}
use Rattle.dd_model.proofs.Texts.{lines_unique}
use Rattle.dd_shard.specs.Merging.{IsMerged, AreMergeable}
use Rattle.dd_shard.specs.Members.{IsShort, lists_of}
use Rattle.dd_shard.proofs.AscendingLists.{none_out_of_order}
use Rattle.dd_text.specs.declared.faults.FileFault.{FileFault}
use Rattle.dd_suite_commands.specs.declared.merge_refusal.MergeRefusal.{MergeRefusal}
use Rattle.dd_suite_commands.specs.declared.merge_refusal.MergeRefusal.TheVariants.{File, NotAscending, Doubled}
use Rattle.dd_suite_commands.specs.Files.{IsFaulty}
use Rattle.dd_suite_commands.specs.Merges.{bytes_of, AreRead, AreReadEach, IsReadingOf, IsMergedText, IsUnread, IsMergeRefusal, IsFileRefusal, IsReadRefusal}
use Rattle.dd_suite_commands.specs.Stops.{IsStop}
use Rattle.dd_suite_commands.specs.declared.stop.Stop.{Stop}
use Rattle.dd_suite_commands.specs.declared.stop.Stop.TheVariants.{Refused, Memory}

-- what reading a file gives
abbrev pub Reading : Type 0
Reading = Result (Vec Symbol Global) (Stop MergeRefusal)

-- ## Lists that are read

pub read_more : (files : List (List ℕ)) (lists : List (List Symbol)) (file : List ℕ) (list : List Symbol) → AreRead files lists → Reads file list
    → AreRead (files ++ file ∷ []) (lists ++ list ∷ [])
read_more [] [] file list all one = (one, tt)
read_more [] (l ∷ lists) file list all one = absurd all
read_more (f ∷ files) [] file list all one = absurd all
read_more (f ∷ files) (l ∷ lists) file list all one = (all.0, read_more files lists file list all.1 one)

pub read_length : (files : List (List ℕ)) (lists : List (List Symbol)) → AreRead files lists → length lists ≡ length files
read_length [] [] all = refl
read_length [] (l ∷ lists) all = absurd all
read_length (f ∷ files) [] all = absurd all
read_length (f ∷ files) (l ∷ lists) all = let rest = read_length files lists all.1 in omega arith

pub read_short : (files : List (List ℕ)) (lists : List (List Symbol)) → AreRead files lists → AllByRecursion IsShort lists
read_short [] [] all = tt
read_short [] (l ∷ lists) all = absurd all
read_short (f ∷ files) [] all = absurd all
read_short (f ∷ files) (l ∷ lists) all = (let few = all.0.few in omega arith, read_short files lists all.1)

pub read_unique : (files : List (List ℕ)) (xs ys : List (List Symbol)) → AreRead files xs → AreRead files ys → xs ≡ ys
read_unique [] [] [] a b = refl
read_unique [] [] (y ∷ ys) a b = absurd b
read_unique [] (x ∷ xs) ys a b = absurd a
read_unique (f ∷ files) [] ys a b = absurd a
read_unique (f ∷ files) (x ∷ xs) [] a b = absurd b
read_unique (f ∷ files) (x ∷ xs) (y ∷ ys) a b = ap (λ l. l ∷ xs) (reads_once f x y a.0 b.0) ∙ ap (λ ls. y ∷ ls) (read_unique files xs ys a.1 b.1)

-- a file that is read has no fault
pub read_at : (files : List (List ℕ)) (lists : List (List Symbol)) (k : ℕ) (file : List ℕ) → AreRead files lists → k < length files → get_or files k file ≡ file → (list : List Symbol) × Reads file list
read_at [] lists k file all low is = absurd (omega arith)
read_at (f ∷ files) [] k file all low is = absurd all
read_at (f ∷ files) (l ∷ lists) zero file all low is = (l, subst (λ b. Reads b l) is all.0)
read_at (f ∷ files) (l ∷ lists) (suc k) file all low is = read_at files lists k file all.1 (omega arith) is

-- ## One text

merged_once : (lists : List (List Symbol)) (xs ys : List Symbol) → IsMerged lists xs → IsMerged lists ys → xs ≡ ys
merged_once lists xs ys a b =
    let there = λ (s : Symbol) (h : Contains xs s). (b.members s).1 ((a.members s).0 h) in
    let back = λ (s : Symbol) (h : Contains ys s). (a.members s).1 ((b.members s).0 h) in
    let more = begins_with xs ys a.ascending b.ascending there (λ s h. inl (back s h)) in
    let less = begins_with ys xs b.ascending a.ascending back (λ s h. inl (there s h)) in
    same more.0 less.0 more.1 less.1
  where
    no_longer : (us vs : List Symbol) → length us ≡ length us + length vs → vs ≡ []
    no_longer us [] e = refl
    no_longer us (v ∷ vs) e = absurd (omega arith)

    same : (us vs : List Symbol) → ys ≡ xs ++ us → xs ≡ ys ++ vs → xs ≡ ys
    same us vs e f =
        let one = ap length e ∙ length-append xs us in
        let two = ap length f ∙ length-append ys vs in
        let none : us ≡ [] = no_longer xs us (omega (arith, one, two)) in
        sym (e ∙ ap (λ r. xs ++ r) none ∙ append-nil xs)

pub merged_text_unique : (files : List (List ℕ)) (a b : List ℕ) → IsMergedText files a → IsMergedText files b → a ≡ b
merged_text_unique files a b x y =
    let lists : y.lists ≡ x.lists = read_unique files y.lists x.lists y.read x.read in
    let members : y.members ≡ x.members = merged_once x.lists y.members x.members (subst (λ ls. IsMerged ls y.members) lists y.merged) x.merged in
    lines_unique 0 x.members a b x.lines (subst (λ ms. AreLines 0 ms b) members y.lines)

-- ## No text

pub refused_without_merge : (files : List (List ℕ)) (text : List ℕ) (r : MergeRefusal) → IsMergeRefusal files r → IsMergedText files text → ⊥
refused_without_merge files text (File n fault) r is =
    let own = read_at files is.lists r.is_file.place r.file is.read r.is_file.within r.is_file.is in
    r.faulty.none own.0 own.1
refused_without_merge files text (NotAscending n symbol) r is =
    let lists : is.lists ≡ r.lists = read_unique files is.lists r.lists is.read r.read in
    let up = subst AreMergeable lists is.mergeable in
    none_out_of_order r.lists n symbol up.ascending r.fault.holds
refused_without_merge files text (Doubled n symbol) r is =
    let lists : is.lists ≡ r.lists = read_unique files is.lists r.lists is.read r.read in
    (subst AreMergeable lists is.mergeable).apart n symbol r.fault.first.holds

-- ## The first file that is not read

pub unread_next : (files : List (List ℕ)) (lists : List (List Symbol)) (k n : ℕ) (file : List ℕ) (fault : FileFault) → AreRead (take k files) lists → k < length files → get_or files k file ≡ file
    → n ≡ k + 1 → IsFaulty file fault → IsUnread files n fault
unread_next files lists k n file fault all low is e faulty =
    record { file = file; is_file = record { place = k; number = e; within = low; is = is }; faulty = faulty; lists = lists; before = all }

pub read_stop : (files : List (List ℕ)) (lists : List (List Symbol)) (k n : ℕ) (file : List ℕ) (stop : Stop MergeRefusal) → AreRead (take k files) lists → k < length files → get_or files k file ≡ file
    → n ≡ k + 1 → IsStop (IsFileRefusal n file) stop → IsStop (IsReadRefusal files) stop
read_stop files lists k n file Memory all low is e h = tt
read_stop files lists k n file (Refused (File m fault)) all low is e h = unread_next files lists k m file fault all low is (h.0 ∙ e) h.1
read_stop files lists k n file (Refused (NotAscending m symbol)) all low is e h = absurd h
read_stop files lists k n file (Refused (Doubled m symbol)) all low is e h = absurd h

pub file_at : (vs : List (Vec ℕ Global)) (k : ℕ) (v : Vec ℕ Global) (d : List ℕ) → k < length vs → v ≡ get_or vs k v → get_or (bytes_of vs) k d ≡ v.items
file_at vs k v d low is = get_or-map (λ (file : Vec ℕ Global). file.items) vs k v d low ∙ ap (λ (file : Vec ℕ Global). file.items) (sym is)

pub files_length : (vs : List (Vec ℕ Global)) → length (bytes_of vs) ≡ length vs
files_length vs = length-map vs (λ (file : Vec ℕ Global). file.items)

-- ## Files that are read one after the other

-- The first files spell these lists, and these are the readings of the files that are left.
pub record AreReadSoFar (files : List (List ℕ)) (left : List Reading) (lists : List (List Symbol)) : Type 0 where
  pub done : ℕ
  pub count : done + length left ≡ length files
  pub read : AreRead (take done files) lists
  pub rest : (k : ℕ) (f : List ℕ) (d : Reading) → k < length left → IsReadingOf (done + k + 1) (get_or files (done + k) f) (get_or left k d)

pub none_read : (files : List (List ℕ)) (results : List Reading) (lists : List (List Symbol)) → AreReadEach files results → lists ≡ [] → AreReadSoFar files results lists
none_read files results lists each none =
    record {
      done = 0;
      count = omega (arith, each.count);
      read = subst (λ ls. AreRead [] ls) (sym none) tt;
      rest = λ k f d low.
          let zero_less : k ≡ 0 + k = omega arith in
          subst (λ j. IsReadingOf (j + 1) (get_or files j f) (get_or results k d)) zero_less (each.each k f d (let size = each.count in omega (arith, low, size)));
    }

-- the next file is read
pub one_read : (files : List (List ℕ)) (list : Vec Symbol Global) (left later : List Reading) (lists now : List (Vec Symbol Global)) → left ≡ Ok list ∷ later → now ≡ lists ++ list ∷ []
    → AreReadSoFar files left (lists_of lists) → AreReadSoFar files later (lists_of now)
one_read files list left later lists now next more so =
    let size = ap length next in
    let k = so.done in
    let low : k < length files = omega (arith, so.count, size) in
    let place : k + 1 ≡ suc k = omega arith in
    let same : get_or left 0 (Ok list) ≡ Ok list = ap (λ rs. get_or rs 0 (Ok list)) next in
    let first : IsReadingOf (k + 0 + 1) (get_or files (k + 0) []) (get_or left 0 (Ok list)) = so.rest 0 [] (Ok list) (omega (arith, size)) in
    let one : Reads (get_or files (k + 0) []) list.items = (subst (IsReadingOf (k + 0 + 1) (get_or files (k + 0) [])) same first).read in
    let here : Reads (get_or files k []) list.items = subst (λ j. Reads (get_or files j []) list.items) (omega arith) one in
    let taken : take (k + 1) files ≡ take k files ++ get_or files k [] ∷ [] = ap (λ j. take j files) place ∙ take-suc files k [] low in
    let listed : lists_of now ≡ lists_of lists ++ list.items ∷ [] = ap lists_of more ∙ map-append (λ (l : Vec Symbol Global). l.items) lists (list ∷ []) in
    record {
      done = k + 1;
      count = omega (arith, so.count, size);
      read = subst (λ fs. AreRead fs (lists_of now)) (sym taken) (subst (AreRead (take k files ++ get_or files k [] ∷ [])) (sym listed) (read_more (take k files) (lists_of lists) (get_or files k []) list.items so.read here));
      rest = λ j f d inside.
          let at = so.rest (suc j) f d (omega (arith, size, inside)) in
          let there : get_or left (suc j) d ≡ get_or later j d = ap (λ rs. get_or rs (suc j) d) next in
          let later_place : k + suc j ≡ k + 1 + j = omega arith in
          subst (λ r. IsReadingOf (k + 1 + j + 1) (get_or files (k + 1 + j) f) r) there (subst (λ p. IsReadingOf (p + 1) (get_or files p f) (get_or left (suc j) d)) later_place at);
    }

-- the next file is not read
pub one_unread : (files : List (List ℕ)) (stop : Stop MergeRefusal) (left later : List Reading) (lists : List (List Symbol)) → left ≡ Err stop ∷ later → AreReadSoFar files left lists
    → IsStop (IsReadRefusal files) stop
one_unread files stop left later lists next so =
    let size = ap length next in
    let k = so.done in
    let low : k < length files = omega (arith, so.count, size) in
    let same : get_or left 0 (Err stop) ≡ Err stop = ap (λ rs. get_or rs 0 (Err stop)) next in
    let first : IsReadingOf (k + 0 + 1) (get_or files (k + 0) []) (get_or left 0 (Err stop)) = so.rest 0 [] (Err stop) (omega (arith, size)) in
    let one : IsStop (IsFileRefusal (k + 0 + 1) (get_or files (k + 0) [])) stop = (subst (IsReadingOf (k + 0 + 1) (get_or files (k + 0) [])) same first).why in
    let here : IsStop (IsFileRefusal (k + 1) (get_or files k [])) stop = subst (λ j. IsStop (IsFileRefusal (j + 1) (get_or files j [])) stop) (omega arith) one in
    read_stop files lists k (k + 1) (get_or files k []) stop so.read low (get_or_default files k (get_or files k []) [] low) refl here

-- every file is read
pub all_read : (files : List (List ℕ)) (left : List Reading) (lists : List (List Symbol)) → left ≡ [] → AreReadSoFar files left lists → AreRead files lists
all_read files left lists none so =
    let size = ap length none in
    subst (λ fs. AreRead fs lists) (take_all so.done files (omega (arith, so.count, size))) so.read

-- an error that is handed on
pub handed_on : {A E : Type 0} (P : E → Type 0) (r : Result A E) (e : E) → IsErrAnd r (λ x. x ≡ e) → P e → IfErr r P
handed_on P (Ok a) e h p = tt
handed_on P (Err x) e h p = subst P (sym h) p
