-- The first bytes of files, one more than a file may have, do for the whole files.
use Rattle.std.proofs.Common.{◌≡◌, ◌≢◌, ℕ, zero, suc, ◌+◌, ◌<◌, ◌≤◌, List, [], ◌∷◌, ◌++◌, length, length-append, take, get_or, take-suc, Bool, true, Option, refl, sym, ap, ◌∙◌, subst, arith}
use Rattle.std.proofs.lemmas.List.{append-nil, map-append}
use Rattle.std.specs.Global.{Global}
use Rattle.std.specs.declared.vec.Vec.{Vec}
use Rattle.dd_model.specs.Symbol.{Symbol}
use Rattle.dd_model.specs.Reading.{Reads}
use Rattle.dd_ports.specs.Texts.{SameTexts}
use Rattle.dd_text.specs.declared.faults.FileFault.{FileFault}
use Rattle.dd_text.specs.declared.faults.Why.{Why}
use Rattle.dd_text.specs.declared.faults.Why.TheVariants.{Stray, UnexpectedEnd, NumberTooLong, Dimension, Size, ListShort, ListLong, Image, Symbol as NoSymbol, TooManySymbols, Long, Memory as NoRoom}
use Rattle.dd_text.specs.FileFaults.{IsFileFaultOf}
use Rattle.dd_text.proofs.RowExclusion.{file_excluded}
use Rattle.dd_suite_commands.specs.declared.merge_refusal.MergeRefusal.{MergeRefusal}
use Rattle.dd_suite_commands.specs.declared.merge_refusal.MergeRefusal.TheVariants.{File, NotAscending, Doubled}
use Rattle.dd_suite_commands.specs.Files.{IsFaulty}
use Rattle.dd_suite_commands.specs.Merges.{bytes_of, AreRead, IsMergedText, IsMergeRefusal}
use Rattle.dd_suite_tasks.specs.Merges.{AreAllFetched, IsFetchedFront, AreFetchedFronts, IsMergeOfHeld, HoldUnmerged}

-- ## One front

-- what is fetched later is what was held before
pub front_before : (old new : Bool) (held later : List ℕ → Option (List ℕ)) (most : ℕ) (name front : List ℕ) → (old ≡ true → (new ≡ true) × SameTexts held later)
    → IsFetchedFront new (later name) most front → IsFetchedFront old (held name) most front
front_before old new held later most name front same is =
    record { rest = is.rest; fetched = λ told. let s = same told in sym (s.1 name) ∙ is.fetched s.0; whole = is.whole }

pub fronts_more : (tells : Bool) (held : List ℕ → Option (List ℕ)) (most : ℕ) (names fronts : List (List ℕ)) (name front : List ℕ) → AreFetchedFronts tells held most names fronts
    → IsFetchedFront tells (held name) most front → AreFetchedFronts tells held most (names ++ name ∷ []) (fronts ++ front ∷ [])
fronts_more tells held most [] [] name front all one = (one, tt)
fronts_more tells held most [] (f ∷ fronts) name front all one = absurd all
fronts_more tells held most (n ∷ names) [] name front all one = absurd all
fronts_more tells held most (n ∷ names) (f ∷ fronts) name front all one = (all.0, fronts_more tells held most names fronts name front all.1 one)

-- ## Whole files

-- a file begins with the front, and is the front if this is as short as a file may be
record IsFrontOf (front file : List ℕ) : Type 0 where
  pub rest : List ℕ
  pub joined : file ≡ front ++ rest
  pub whole : length front ≤ 16777216 → file ≡ front

abbrev AreFrontsOf : List (List ℕ) → List (List ℕ) → Type 0
AreFrontsOf [] [] = Unit {0}
AreFrontsOf [] (file ∷ files) = ⊥
AreFrontsOf (front ∷ fronts) [] = ⊥
AreFrontsOf (front ∷ fronts) (file ∷ files) = IsFrontOf front file × AreFrontsOf fronts files

record HasFiles (tells : Bool) (held : List ℕ → Option (List ℕ)) (names fronts : List (List ℕ)) : Type 0 where
  pub files : List (List ℕ)
  pub fetched : AreAllFetched tells held names files
  pub fronts_are : AreFrontsOf fronts files

files_of : (tells : Bool) (held : List ℕ → Option (List ℕ)) (names fronts : List (List ℕ)) → AreFetchedFronts tells held 16777217 names fronts → HasFiles tells held names fronts
files_of tells held [] [] all = record { files = []; fetched = tt; fronts_are = tt }
files_of tells held [] (f ∷ fronts) all = absurd all
files_of tells held (n ∷ names) [] all = absurd all
files_of tells held (n ∷ names) (f ∷ fronts) all =
    let rest = files_of tells held names fronts all.1 in
    let one = all.0 in
    record {
      files = (f ++ one.rest) ∷ rest.files;
      fetched = (one.fetched, rest.fetched);
      fronts_are = (
        record {
          rest = one.rest;
          joined = refl;
          whole = λ short. ap (λ r. f ++ r) (one.whole (omega arith)) ∙ append-nil f;
        },
        rest.fronts_are,
      );
    }

reads_whole : (front file : List ℕ) (ss : List Symbol) → IsFrontOf front file → Reads front ss → Reads file ss
reads_whole front file ss is reads = subst (λ b. Reads b ss) (sym (is.whole reads.short)) reads

read_whole : (fronts files : List (List ℕ)) (lists : List (List Symbol)) → AreFrontsOf fronts files → AreRead fronts lists → AreRead files lists
read_whole [] [] lists all read = read
read_whole [] (f ∷ files) lists all read = absurd all
read_whole (f ∷ fronts) [] lists all read = absurd all
read_whole (f ∷ fronts) (g ∷ files) [] all read = absurd read
read_whole (f ∷ fronts) (g ∷ files) (l ∷ lists) all read = (reads_whole f g l all.0 read.0, read_whole fronts files lists all.1 read.1)

take_fronts : (k : ℕ) (fronts files : List (List ℕ)) → AreFrontsOf fronts files → AreFrontsOf (take k fronts) (take k files)
take_fronts zero fronts files all = tt
take_fronts (suc k) [] [] all = tt
take_fronts (suc k) [] (f ∷ files) all = absurd all
take_fronts (suc k) (f ∷ fronts) [] all = absurd all
take_fronts (suc k) (f ∷ fronts) (g ∷ files) all = (all.0, take_fronts k fronts files all.1)

-- the file of a front at a place
record IsFileAt (files : List (List ℕ)) (k : ℕ) (front : List ℕ) : Type 0 where
  pub file : List ℕ
  pub front_is : IsFrontOf front file
  pub within : k < length files
  pub is : get_or files k file ≡ file

file_at : (fronts files : List (List ℕ)) (k : ℕ) (front : List ℕ) → AreFrontsOf fronts files → k < length fronts → get_or fronts k front ≡ front → IsFileAt files k front
file_at [] files k front all low is = absurd (omega arith)
file_at (f ∷ fronts) [] k front all low is = absurd all
file_at (f ∷ fronts) (g ∷ files) zero front all low is = record { file = g; front_is = subst (λ h. IsFrontOf h g) is all.0; within = omega arith; is = refl }
file_at (f ∷ fronts) (g ∷ files) (suc k) front all low is =
    let rest = file_at fronts files k front all.1 (omega arith) is in
    record { file = rest.file; front_is = rest.front_is; within = let low = rest.within in omega arith; is = rest.is }

-- a file whose front has a fault has this fault
longer : (front file : List ℕ) → IsFrontOf front file → length front ≤ length file
longer front file is = let e = ap length is.joined ∙ length-append front is.rest in omega (arith, e)

fault_whole : (front file : List ℕ) (fault : FileFault) (why : Why) → IsFrontOf front file → IsFileFaultOf front fault why → (why ≢ NoRoom) → IsFileFaultOf file fault why
fault_whole front file fault Long is f some = record { long = let l = longer front file is in let m = f.long in omega arith; symbol = f.symbol; place = f.place }
fault_whole front file fault NoRoom is f some = absurd (some refl)
fault_whole front file fault Stray is f some = subst (λ b. IsFileFaultOf b fault Stray) (sym (is.whole f.short)) f
fault_whole front file fault UnexpectedEnd is f some = subst (λ b. IsFileFaultOf b fault UnexpectedEnd) (sym (is.whole f.short)) f
fault_whole front file fault NumberTooLong is f some = subst (λ b. IsFileFaultOf b fault NumberTooLong) (sym (is.whole f.short)) f
fault_whole front file fault Dimension is f some = subst (λ b. IsFileFaultOf b fault Dimension) (sym (is.whole f.short)) f
fault_whole front file fault Size is f some = subst (λ b. IsFileFaultOf b fault Size) (sym (is.whole f.short)) f
fault_whole front file fault ListShort is f some = subst (λ b. IsFileFaultOf b fault ListShort) (sym (is.whole f.short)) f
fault_whole front file fault ListLong is f some = subst (λ b. IsFileFaultOf b fault ListLong) (sym (is.whole f.short)) f
fault_whole front file fault Image is f some = subst (λ b. IsFileFaultOf b fault Image) (sym (is.whole f.short)) f
fault_whole front file fault (NoSymbol r) is f some = subst (λ b. IsFileFaultOf b fault (NoSymbol r)) (sym (is.whole f.short)) f
fault_whole front file fault TooManySymbols is f some = subst (λ b. IsFileFaultOf b fault TooManySymbols) (sym (is.whole f.short)) f

faulty_whole : (front file : List ℕ) (fault : FileFault) → IsFrontOf front file → IsFaulty front fault → IsFaulty file fault
faulty_whole front file fault is faulty =
    let first = fault_whole front file fault fault.why is faulty.first faulty.no_memory in
    record { none = λ ss reads. file_excluded file fault ss first faulty.no_memory reads; first = first; no_memory = faulty.no_memory }

refused_whole : (fronts files : List (List ℕ)) (r : MergeRefusal) → AreFrontsOf fronts files → IsMergeRefusal fronts r → IsMergeRefusal files r
refused_whole fronts files (File n fault) all r =
    let there = file_at fronts files r.is_file.place r.file all r.is_file.within r.is_file.is in
    record {
      file = there.file;
      is_file = record { place = r.is_file.place; number = r.is_file.number; within = there.within; is = there.is };
      faulty = faulty_whole r.file there.file fault there.front_is r.faulty;
      lists = r.lists;
      before = read_whole (take r.is_file.place fronts) (take r.is_file.place files) r.lists (take_fronts r.is_file.place fronts files all) r.before;
    }
refused_whole fronts files (NotAscending n symbol) all r = record { lists = r.lists; read = read_whole fronts files r.lists all r.read; fault = r.fault }
refused_whole fronts files (Doubled n symbol) all r = record { lists = r.lists; read = read_whole fronts files r.lists all r.read; fault = r.fault }

-- ## What names hold

pub merge_of_fronts : (tells : Bool) (held : List ℕ → Option (List ℕ)) (names fronts : List (List ℕ)) (text : List ℕ) → AreFetchedFronts tells held 16777217 names fronts
    → IsMergedText fronts text → IsMergeOfHeld names tells held text
merge_of_fronts tells held names fronts text all is =
    let own = files_of tells held names fronts all in
    record {
      files = own.files;
      fetched = own.fetched;
      is_text = record {
        lists = is.lists;
        read = read_whole fronts own.files is.lists own.fronts_are is.read;
        mergeable = is.mergeable;
        members = is.members;
        merged = is.merged;
        lines = is.lines;
      };
    }

pub unmerged_of_fronts : (tells : Bool) (held : List ℕ → Option (List ℕ)) (names fronts : List (List ℕ)) (r : MergeRefusal) → AreFetchedFronts tells held 16777217 names fronts
    → IsMergeRefusal fronts r → HoldUnmerged names tells held r
unmerged_of_fronts tells held names fronts r all refused =
    let own = files_of tells held names fronts all in
    record { files = own.files; fetched = own.fetched; refused = refused_whole fronts own.files r own.fronts_are refused }

-- ## Files that are fetched one by one

pub fronts_step : (tells : Bool) (held : List ℕ → Option (List ℕ)) (most : ℕ) (names : List (List ℕ)) (k : ℕ) (name : List ℕ) (fs now : List (Vec ℕ Global)) (f : Vec ℕ Global)
    → AreFetchedFronts tells held most (take k names) (bytes_of fs) → k < length names → name ≡ get_or names k name → IsFetchedFront tells (held name) most f.items → now ≡ fs ++ f ∷ []
    → AreFetchedFronts tells held most (take (k + 1) names) (bytes_of now)
fronts_step tells held most names k name fs now f all low is one e =
    let next : k + 1 ≡ suc k = omega arith in
    let taken : take (k + 1) names ≡ take k names ++ name ∷ [] = ap (λ j. take j names) next ∙ take-suc names k name low ∙ ap (λ n. take k names ++ n ∷ []) (sym is) in
    let listed : bytes_of now ≡ bytes_of fs ++ f.items ∷ [] = ap bytes_of e ∙ map-append (λ (file : Vec ℕ Global). file.items) fs (f ∷ []) in
    subst (λ ns. AreFetchedFronts tells held most ns (bytes_of now)) (sym taken)
    (subst (AreFetchedFronts tells held most (take k names ++ name ∷ [])) (sym listed) (fronts_more tells held most (take k names) (bytes_of fs) name f.items all one))

pub fronts_length : (tells : Bool) (held : List ℕ → Option (List ℕ)) (most : ℕ) (names fronts : List (List ℕ)) → AreFetchedFronts tells held most names fronts → length fronts ≡ length names
fronts_length tells held most [] [] all = refl
fronts_length tells held most [] (f ∷ fronts) all = absurd all
fronts_length tells held most (n ∷ names) [] all = absurd all
fronts_length tells held most (n ∷ names) (f ∷ fronts) all = let rest = fronts_length tells held most names fronts all.1 in omega arith
