-- What is held at an opening, and what it comes to.
use Rattle.std.proofs.Common.{◌≡◌, ℕ, ◌+◌, List, [], ◌++◌, length, take, sym, ap, ◌∙◌, subst, arith, length-append}
use Rattle.std.proofs.lemmas.List.{take_all, take-append-le}
use Rattle.std.specs.List.{Contains}
use Rattle.dd_model.specs.Symbol.{Symbol}
use Rattle.dd_model.specs.Position.{IsBefore}
use Rattle.dd_model.specs.declared.requests.Request.{Request}
use Rattle.dd_model.specs.declared.jobs.Job.{Job}
use Rattle.dd_model.specs.declared.jobs.Position.{Position}
use Rattle.dd_front.specs.Machine.{Machine, Saved, IsOpened, StandsAt, jobs_of}
use Rattle.dd_front.specs.Covered.{IsBetween, IsCovered}
use Rattle.dd_front.specs.Numbers.{AreNumbered}
use Rattle.dd_front.specs.Held.{AreFound, GoOn, IsSaved, IsHeld}
use Rattle.dd_front.proofs.Standing.{stands_somewhere, jobs_stand, before_stands, emitted_between, left_from}
use Rattle.dd_front.proofs.GoingOn.{go_on_first}
use Rattle.dd_front.proofs.Entries.{jobs_opened, opened_numbered, opened_found}

pub held_covered : (q : Request) (jobs : List Job) (at : Position) (f : Machine) (out : List Symbol) → IsHeld q jobs at f out → IsCovered q jobs at f out
held_covered q jobs at f out held =
    let where_it = stands_somewhere f.from f.entries in
    let stand = jobs_stand f.from where_it.0 f.entries where_it.1 in
    record {
      stands = where_it.0;
      stands_at = where_it.1;
      ascending = held.go_on.ascending;
      emitted = emitted_between q jobs at f.from where_it.0 (jobs_of f.entries) out held.go_on stand;
      left = left_from q jobs at f.from where_it.0 (jobs_of f.entries) out held.go_on stand;
      lines = held.lines;
    }

-- what is emitted is saved where the machine's position is saved
pub saved_where_it_stands : (q : Request) (jobs : List Job) (at : Position) (f g : Machine) (out : List Symbol) → GoOn q jobs at (jobs_of f.entries) f.from out → StandsAt f.from f.entries g.saved.position
    → g.saved.lines ≡ g.opened + length out → IsSaved q jobs at g out
saved_where_it_stands q jobs at f g out go stands lines =
    let stand = jobs_stand f.from g.saved.position f.entries stands in
    let between = emitted_between q jobs at f.from g.saved.position (jobs_of f.entries) out go stand in
    let whole : take (length out) out ≡ out = take_all (length out) out (omega arith) in
    record {
      count = length out;
      enough = omega arith;
      lines = lines;
      further = λ s member before. before_stands f.from g.saved.position (jobs_of f.entries) s stand (go.further s member before);
      emitted = λ s there. (between s).0 (subst (λ ss. Contains ss s) whole there);
      complete = λ s is. subst (λ ss. Contains ss s) (sym whole) ((between s).1 is);
    }

-- what was saved stays so where more is emitted
pub saved_stays : (q : Request) (jobs : List Job) (at : Position) (f g : Machine) (out more : List Symbol) → g.saved ≡ f.saved → g.opened ≡ f.opened → IsSaved q jobs at f out → IsSaved q jobs at g (out ++ more)
saved_stays q jobs at f g out more saved opened old =
    let enough = old.enough in
    let longer = length-append out more in
    let place : f.saved.position ≡ g.saved.position = ap (λ (s : Saved). s.position) (sym saved) in
    let front : take old.count (out ++ more) ≡ take old.count out = take-append-le old.count out more enough in
    record {
      count = old.count;
      enough = omega arith;
      lines = ap (λ (s : Saved). s.lines) saved ∙ old.lines ∙ ap (λ n. n + old.count) (sym opened);
      further = λ s member before. subst (λ p. IsBefore p s) place (old.further s member before);
      emitted = λ s there. subst (λ p. IsBetween q jobs at p s) place (old.emitted s (subst (λ ss. Contains ss s) front there));
      complete = λ s between. subst (λ ss. Contains ss s) (sym front) (old.complete s (subst (λ p. IsBetween q jobs at p s) (sym place) between));
    }

pub held_first : (q : Request) (jobs : List Job) (at : Position) (k : ℕ) (f : Machine) → IsOpened q jobs at k f → IsHeld q jobs at f []
held_first q jobs at k f is =
    let listed : jobs ≡ jobs_of f.entries = sym (ap jobs_of is.entries ∙ jobs_opened 1 jobs) in
    let go : GoOn q jobs at (jobs_of f.entries) f.from [] =
    subst (λ p. GoOn q jobs at (jobs_of f.entries) p []) (sym is.from) (subst (λ js. GoOn q jobs at js at []) listed (go_on_first q jobs at is.ascending is.apart)) in
    let lines = is.lines in
    let saved = is.saved_lines in
    let opened = is.opened in
    record {
      request = is.request;
      opening = is.opening;
      ascending = is.ascending;
      apart = is.apart;
      numbered = subst (λ n. AreNumbered n f.entries) (sym is.next) (subst (AreNumbered (length jobs + 1)) (sym is.entries) (opened_numbered jobs));
      found = subst (AreFound q) (sym is.entries) (opened_found q 1 jobs);
      go_on = go;
      lines = omega arith;
      saved = saved_where_it_stands q jobs at f f [] go (subst (λ p. StandsAt p f.entries f.saved.position) (sym is.from) is.saved_position) (omega arith);
    }
