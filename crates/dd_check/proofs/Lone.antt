-- A catalogue without a name is a chain by itself.
use Rattle.std.proofs.Common.{◌≡◌, ℕ, refl, subst, inl}
use Rattle.std.specs.Prelude.{Some, None}
use Rattle.dd_model.specs.Lists.{Begins}
use Rattle.dd_model.specs.Text.{IsText, beginning}
use Rattle.dd_model.specs.declared.requests.Request.{Request}
use Rattle.dd_model.proofs.Ascending.{begins_itself}
use Rattle.dd_model.proofs.Texts.{text_unique}
use Rattle.dd_check.specs.Texts.{Text}
use Rattle.dd_front_jobs.specs.declared.portions.Portion.{Portion}
use Rattle.dd_front_jobs.specs.Portions.{whole, IsPortionText}
use Rattle.dd_check.specs.Calls.{Begin, Done, Paused, lone_call}
use Rattle.dd_check.specs.ChainStarts.{first_start}
use Rattle.dd_check.specs.Clauses.{MeetsClauses}
use Rattle.dd_check.proofs.ChainRests.{text_is_rest}

pub none_asked : (lines : ℕ) → None ≡ Some lines → ⊥
none_asked lines e = cc

no_name : (q r : Portion) (name : Text) → Begin q None ≡ Begin r (Some name) → ⊥
no_name q r name e = cc

not_paused : Done ≡ Paused → ⊥
not_paused e = cc

pub lone_meets : (q : Request) (text : Text) → IsText q beginning 0 text → MeetsClauses (lone_call q text)
lone_meets q text t =
    let rest = text_is_rest (whole q) beginning 0 text t in
    record {
      prefix = λ start other starts is.
          let own : IsText q beginning 0 other = subst (λ s. IsPortionText s.portion s.at s.lines other) starts is in
          subst (Begins text) (text_unique q beginning 0 text other t own) (begins_itself text);
      done = λ e. record { start = first_start (whole q); starts = refl; count = rest.0; written = rest.1; few = λ lines asked. absurd (none_asked lines asked) };
      paused = λ e. absurd (not_paused e);
      held = inl refl;
      first = λ r name task worked. absurd (no_name (whole q) r name task);
      last = λ e named start starts work. absurd named;
      refused = λ nowhere. absurd (nowhere (first_start (whole q)) refl);
    }
