-- Words ask for one thing at most.
use Rattle.std.proofs.Common.{◌≡◌, ◌≤◌, ℕ, List, [], ◌∷◌, length, Option, Some, None, MatchOption, refl, sym, ap, ◌∙◌, subst}
use Rattle.dd_model.specs.declared.requests.Request.{Request}
use Rattle.dd_model.specs.Request.{IsValid}
use Rattle.dd_words.specs.Grammar.{IsCommand, IsExercise, OnTwo}
use Rattle.dd_words.specs.Values.{Text}
use Rattle.dd_words.proofs.ReadCommands.{one_command}
use Rattle.dd_words.proofs.Validity.{IsAskedWell, catalogue_well, shard_well}
use Rattle.dd_words.specs.declared.commands.Command.{Command}
use Rattle.dd_words.specs.declared.commands.Command.TheVariants.{Catalogue, Resume, Shard as ShardOf, ResumeShard, File, Apply, Merge, Exercise, Draw as Drawing}
use Rattle.dd_words.specs.declared.commands.FileKind.{FileKind}
use Rattle.dd_words.specs.declared.commands.FileKind.TheVariants as kind
use Rattle.dd_front_jobs.specs.declared.shards.Shard.{Shard}
use Rattle.dd_front_jobs.specs.declared.portions.Portion.{Portion}
use Rattle.dd_front_jobs.specs.Portions.{whole}
use Rattle.dd_check.specs.declared.checkpoint.ResumeKind.{ResumeKind}
use Rattle.dd_check.specs.declared.checkpoint.ResumeKind.TheVariants.{Catalogues, Shards}
use Rattle.dd_check.specs.Calls.{Task as ChainTask, Begin, Resume as Next}
use Rattle.dd_suite_commands.specs.declared.commands.FileCommand.{FileCommand}
use Rattle.dd_suite_commands.specs.declared.commands.FileCommand.TheVariants.{Symbols, Info, Sheets, Draw}
use Rattle.dd_suite_commands.specs.declared.commands.SymbolCommand.TheVariants.{Lines, Canon, Minimal, Dual, Oriented, Torus, Derived, Applied}
use Rattle.dd_front_jobs.specs.declared.pace.Pace.{Pace}
use Rattle.dd_suite_tasks.specs.declared.task.Task.{Task}
use Rattle.dd_suite_tasks.specs.declared.task.Task.TheVariants as task
use Rattle.dd_suite_tasks.specs.Words.{Order, begin_command, resume_command, run_command, AskForRun, file_command, IsOnFile, AskToExercise, AreTaken}
use Rattle.dd_suite_tasks.specs.Merges.{AskToMerge}
use Rattle.dd_suite_tasks.specs.Commands.{AskForTask}

-- what a command on a file asks for, and its file
command_of : FileKind → FileCommand
command_of kind.Info = Info
command_of kind.Sheets = Sheets
command_of kind.Lines = Symbols Lines
command_of kind.Canon = Symbols Canon
command_of kind.Minimal = Symbols Minimal
command_of kind.Dual = Symbols Dual
command_of (kind.Derived operation) = Symbols (Derived operation)
command_of kind.Oriented = Symbols Oriented
command_of kind.Torus = Symbols Torus

asked_by : Command → Option (FileCommand × List ℕ)
asked_by (File kind name) = Some (command_of kind, name)
asked_by (Apply word name) = Some (Symbols (Applied word), name)
asked_by (Drawing name frame) = Some (Draw frame, name)
asked_by other = None

back_from_command : (k : FileCommand) (name : List ℕ) → asked_by (file_command k name) ≡ Some (k, name)
unfolding asked_by command_of
back_from_command Info name = refl
back_from_command Sheets name = refl
back_from_command (Symbols Lines) name = refl
back_from_command (Symbols Canon) name = refl
back_from_command (Symbols Minimal) name = refl
back_from_command (Symbols Dual) name = refl
back_from_command (Symbols Oriented) name = refl
back_from_command (Symbols Torus) name = refl
back_from_command (Symbols (Derived operation)) name = refl
back_from_command (Symbols (Applied word)) name = refl
back_from_command (Draw frame) name = refl

same_asked : (p q : FileCommand × List ℕ) → Some p ≡ Some q → (p.0 ≡ q.0) × (p.1 ≡ q.1)
same_asked p q e =
    let same : p ≡ q = cc in
    (ap (λ (r : FileCommand × List ℕ). r.0) same, ap (λ (r : FileCommand × List ℕ). r.1) same)

-- the run that a command asks for, and nothing for other commands
pub order_of : Command → Option Order
order_of (Catalogue q pace pause name) = Some (record { task = Begin (whole q) name; round = pace.round; pause = pause })
order_of (ShardOf shard q pace pause name) = Some (record { task = Begin (record { request = q; shard = Some shard }) name; round = pace.round; pause = pause })
order_of (Resume name pace pause) = Some (record { task = Next Catalogues name; round = pace.round; pause = pause })
order_of (ResumeShard name pace pause) = Some (record { task = Next Shards name; round = pace.round; pause = pause })
order_of other = None

begun_order : (shard : Option Shard) (q : Request) (name : Option (List ℕ)) (pace : Pace) (pause : Option ℕ)
    → order_of (begin_command shard q name pace pause) ≡ Some (record { task = Begin (record { request = q; shard = shard }) name; round = pace.round; pause = pause })
unfolding order_of
begun_order None q name pace pause = refl
begun_order (Some shard) q name pace pause = refl

resumed_order : (kind : ResumeKind) (name : List ℕ) (pace : Pace) (pause : Option ℕ)
    → order_of (resume_command kind name pace pause) ≡ Some (record { task = Next kind name; round = pace.round; pause = pause })
unfolding order_of
resumed_order Catalogues name pace pause = refl
resumed_order Shards name pace pause = refl

-- the command of a run asks for the run
pub order_told : (task : ChainTask) (pace : Pace) (pause : Option ℕ) → order_of (run_command task pace pause) ≡ Some (record { task = task; round = pace.round; pause = pause })
order_told (Begin p name) pace pause = begun_order p.shard p.request name pace pause
order_told (Next kind name) pace pause = resumed_order kind name pace pause

abbrev with_round : ChainTask → Option ℕ → ℕ → Option Order
with_round task pause round = Some (record { task = task; round = round; pause = pause })

asked_order : (words : List (List ℕ)) (order : Order) (asked : AskForRun words order) → order_of (run_command order.task asked.pace order.pause) ≡ Some order
asked_order words order asked = order_told order.task asked.pace order.pause ∙ ap (with_round order.task order.pause) asked.round_is

no_order : (k : FileCommand) (name : List ℕ) → order_of (file_command k name) ≡ None
unfolding order_of
no_order Info name = refl
no_order Sheets name = refl
no_order (Symbols Lines) name = refl
no_order (Symbols Canon) name = refl
no_order (Symbols Minimal) name = refl
no_order (Symbols Dual) name = refl
no_order (Symbols Oriented) name = refl
no_order (Symbols Torus) name = refl
no_order (Symbols (Derived operation)) name = refl
no_order (Symbols (Applied word)) name = refl
no_order (Draw frame) name = refl

same_some : (a b : Order) → Some a ≡ Some b → a ≡ b
same_some a b e = cc

none_some : (a : Order) → Some a ≡ None → ⊥
none_some a e = cc

pub one_order : (words : List (List ℕ)) (a b : Order) → AskForRun words a → AskForRun words b → a ≡ b
one_order words a b h i =
    same_some a b
    (sym (asked_order words a h) ∙ ap order_of (one_command words _ _ h.command i.command) ∙ asked_order words b i)

-- no words are those of a run and of a command on a file
pub not_both : (words : List (List ℕ)) (order : Order) (k : FileCommand) (name : List ℕ) → AskForRun words order → IsOnFile words k name → ⊥
not_both words order k name a b =
    none_some order (sym (asked_order words order a) ∙ ap order_of (one_command words _ _ a.command b) ∙ no_order k name)

pub same_command : (words : List (List ℕ)) (k l : FileCommand) (a b : List ℕ) → IsOnFile words k a → IsOnFile words l b → (k ≡ l) × (a ≡ b)
same_command words k l a b h i =
    same_asked (k, a) (l, b) (sym (back_from_command k a) ∙ ap asked_by (one_command words _ _ h i) ∙ back_from_command l b)

-- those of a merge are neither
pub run_or_merge : (words : List (List ℕ)) (order : Order) (names : List (List ℕ)) → AskForRun words order → AskToMerge words names → ⊥
unfolding order_of
run_or_merge words order names a b =
    none_some order (sym (asked_order words order a) ∙ ap order_of (one_command words _ _ a.command b))

-- those of an exercise are neither
pub run_or_exercise : (words : List (List ℕ)) (order : Order) (start count : ℕ) → AskForRun words order → AskToExercise words start count → ⊥
unfolding order_of
run_or_exercise words order start count a b =
    none_some order (sym (asked_order words order a) ∙ ap order_of (one_command words _ _ a.command b))

none_asked : (a : FileCommand × List ℕ) → Some a ≡ None → ⊥
none_asked a e = cc

pub file_or_exercise : (words : List (List ℕ)) (k : FileCommand) (name : List ℕ) (start count : ℕ) → IsOnFile words k name → AskToExercise words start count → ⊥
unfolding asked_by
file_or_exercise words k name start count a b = none_asked (k, name) (sym (back_from_command k name) ∙ ap asked_by (one_command words _ _ a b))

pub file_or_merge : (words : List (List ℕ)) (k : FileCommand) (name : List ℕ) (names : List (List ℕ)) → IsOnFile words k name → AskToMerge words names → ⊥
unfolding asked_by
file_or_merge words k name names a b = none_asked (k, name) (sym (back_from_command k name) ∙ ap asked_by (one_command words _ _ a b))

-- the files of a merge, and nothing for other commands
merged_by : Command → Option (List (List ℕ))
merged_by (Merge names) = Some names
merged_by other = None

same_names : (xs ys : List (List ℕ)) → Some xs ≡ Some ys → xs ≡ ys
same_names xs ys e = cc

no_names : (xs : List (List ℕ)) → Some xs ≡ None → ⊥
no_names xs e = cc

pub one_merge : (words : List (List ℕ)) (xs ys : List (List ℕ)) → AskToMerge words xs → AskToMerge words ys → xs ≡ ys
unfolding merged_by
one_merge words xs ys a b = same_names xs ys (ap merged_by (one_command words _ _ a b))

pub merge_or_exercise : (words : List (List ℕ)) (names : List (List ℕ)) (start count : ℕ) → AskToMerge words names → AskToExercise words start count → ⊥
unfolding merged_by
merge_or_exercise words names start count a b = no_names names (ap merged_by (one_command words _ _ a b))

same_numbers : (start count first number : ℕ) → Exercise start count ≡ Exercise first number → (start ≡ first) × (count ≡ number)
same_numbers start count first number e = (cc, cc)

pub one_exercise : (words : List (List ℕ)) (start count first number : ℕ) → AskToExercise words start count → AskToExercise words first number → (start ≡ first) × (count ≡ number)
one_exercise words start count first number a b = same_numbers start count first number (one_command words _ _ a b)

-- ## Tasks

-- words that no command fits are not taken
pub none_taken : (words : List (List ℕ)) → ((c : Command) → IsCommand words c → ⊥) → AreTaken words → ⊥
none_taken words none (c, is) = none c is

-- what was read is what the words ask for
pub asked_of : (words : List (List ℕ)) (o : Option Task) (t u : Task) → MatchOption o (¬ AreTaken words) (AskForTask words) → o ≡ Some t → t ≡ u → AskForTask words u
asked_of words o t u h e f =
    let here : MatchOption (Some t) (¬ AreTaken words) (AskForTask words) = subst (λ (p : Option Task). MatchOption p (¬ AreTaken words) (AskForTask words)) e h in
    subst (AskForTask words) f here

-- ## What a task asks for

pub file_asked : (words : List (List ℕ)) (k : FileCommand) (name : List ℕ) → AskForTask words (task.OnFile k name) → IsOnFile words k name
file_asked words k name is = subst (IsCommand words) is.task_is is.asked

-- the command that begins a portion asks for a valid request
pub record IsBegunWell (words : List (List ℕ)) (p : Portion) (name : Option (List ℕ)) (pace : Pace) (pause : Option ℕ) : Type 0 where
  pub valid : IsValid p.request
  pub asked : AskForRun words (record { task = Begin p name; round = pace.round; pause = pause })

begun_command : (words : List (List ℕ)) (shard : Option Shard) (q : Request) (name : Option (List ℕ)) (pace : Pace) (pause : Option ℕ)
    → IsCommand words (begin_command shard q name pace pause) → IsAskedWell q pause name
begun_command words None q name pace pause is = catalogue_well words q pace pause name is
begun_command words (Some shard) q name pace pause is = shard_well words shard q pace pause name is

begun_well : (words : List (List ℕ)) (p : Portion) (name : Option (List ℕ)) (pace : Pace) (pause : Option ℕ)
    → IsCommand words (begin_command p.shard p.request name pace pause) → IsBegunWell words p name pace pause
begun_well words p name pace pause is =
    let well = begun_command words p.shard p.request name pace pause is in
    record { valid = well.valid; asked = record { pace = pace; round_is = refl; command = is } }

-- without a name there is no pause
pub lone_run : (words : List (List ℕ)) (p : Portion) (pace : Pace) (pause : Option ℕ) → IsCommand words (run_command (Begin p None) pace pause) → pause ≡ None
lone_run words p pace pause is = (begun_command words p.shard p.request None pace pause is).lone refl

pub lone_asked : (words : List (List ℕ)) (p : Portion) (pace : Pace) → AskForTask words (task.Alone p pace) → IsBegunWell words p None pace None
lone_asked words p pace is =
    let own : IsCommand words (begin_command p.shard p.request None pace is.task_is.0) = subst (IsCommand words) is.task_is.1 is.asked in
    subst (IsBegunWell words p None pace) (lone_run words p pace is.task_is.0 own) (begun_well words p None pace is.task_is.0 own)

pub kept_asked : (words : List (List ℕ)) (p : Portion) (name : List ℕ) (pace : Pace) (pause : Option ℕ) → AskForTask words (task.Kept p name pace pause) → IsBegunWell words p (Some name) pace pause
kept_asked words p name pace pause is = begun_well words p (Some name) pace pause (subst (IsCommand words) is.task_is is.asked)

pub resume_asked : (words : List (List ℕ)) (kind : ResumeKind) (name : List ℕ) (pace : Pace) (pause : Option ℕ) → AskForTask words (task.Resume kind name pace pause)
    → AskForRun words (record { task = Next kind name; round = pace.round; pause = pause })
resume_asked words kind name pace pause is =
    record { pace = pace; round_is = refl; command = subst (IsCommand words) is.task_is is.asked }

pub exercise_asked : (words : List (List ℕ)) (start count : ℕ) → AskForTask words (task.Exercise start count) → AskToExercise words start count
exercise_asked words start count is = subst (IsCommand words) is.task_is is.asked

pub merge_asked : (words : List (List ℕ)) (names : List (List ℕ)) → AskForTask words (task.Merge names) → AskToMerge words names
merge_asked words names is = subst (IsCommand words) is.task_is is.asked

-- there are at most eight files
pub few_files : (words : List (List ℕ)) (names : List (List ℕ)) → AskToMerge words names → length names ≤ 8
few_files words names is = subst (λ xs. length xs ≤ 8) is.said.same is.said.few

numbers_in_range : (arguments : List Text) (start count : ℕ) → OnTwo arguments (λ first second. IsExercise first second start count) → (start ≤ 2147483647) × (count ≤ 10000)
numbers_in_range [] start count is = absurd is
numbers_in_range (x ∷ []) start count is = absurd is
numbers_in_range (x ∷ y ∷ []) start count is = (is.start_is.to, is.count_is.to)
numbers_in_range (x ∷ y ∷ z ∷ zs) start count is = absurd is

-- the numbers of an exercise are in their ranges
pub exercise_range : (words : List (List ℕ)) (start count : ℕ) → AskToExercise words start count → (start ≤ 2147483647) × (count ≤ 10000)
exercise_range words start count is = numbers_in_range is.arguments start count is.said
