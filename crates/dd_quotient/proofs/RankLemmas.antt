-- How the leaders of classes are numbered, one chamber after the other.
use Rattle.std.proofs.Common.{◌≡◌, ℕ, ◌+◌, ◌-◌, ◌<◌, ◌≤◌, List, [], ◌∷◌, ◌++◌, length, get_or, refl, sym, ap, ◌∙◌, subst, ⊎_elim, arith}
use Rattle.std.proofs.lemmas.Bool.{cases_lt}
use Rattle.std.proofs.lemmas.List.{length-append, get_or_push, get_or_append_left}
use Rattle.dd_model.specs.Symbol.{Symbol, IsChamber, item}
use Rattle.dd_quotient.specs.Ranks.{HaveLeaders, IsRank, AreRanks}

-- what holds below n and at n holds up to n
or_last : (P : ℕ → Type 0) (n : ℕ) → ((e : ℕ) → 1 ≤ e → e < n → P e) → P n → (e : ℕ) → 1 ≤ e → e ≤ n → P e
or_last P n before last e low high =
    ⊎_elim (λ early. before e low early) (λ late. let here : n ≡ e = omega arith in subst P here last) (cases_lt e n)

-- a list with one number more
pushed_early : (xs : List ℕ) (x e : ℕ) → 1 ≤ e → e ≤ length xs → item (xs ++ x ∷ []) e ≡ item xs e
pushed_early xs x e low high = get_or_append_left xs (x ∷ []) 0 (e - 1) (omega arith)

pushed_last : (xs : List ℕ) (x e : ℕ) → e ≡ length xs + 1 → item (xs ++ x ∷ []) e ≡ x
pushed_last xs x e here = get_or_push xs x 0 (e - 1) (omega arith)

-- a chamber that leads its class has the next rank
pub rank_of_leader : (c leaders ranks : List ℕ) (d : ℕ) → 1 ≤ d → item c d ≡ d → AreRanks c leaders ranks (d - 1)
    → AreRanks c (leaders ++ d ∷ []) (ranks ++ (length leaders + 1) ∷ []) d
rank_of_leader c leaders ranks d some leads r =
    let n = length leaders in
    let leaders' = leaders ++ d ∷ [] in
    let ranks' = ranks ++ (n + 1) ∷ [] in
    let whole = r.whole in
    let few = r.few in
    let more : length leaders' ≡ n + 1 = length-append leaders (d ∷ []) in
    let longer : length ranks' ≡ length ranks + 1 = length-append ranks ((n + 1) ∷ []) in
    let last : item leaders' (n + 1) ≡ d = pushed_last leaders d (n + 1) refl in
    let last_rank : item ranks' d ≡ n + 1 = pushed_last ranks (n + 1) d (omega arith) in
    let early : (e : ℕ) → 1 ≤ e → e < n + 1 → item leaders' e ≡ item leaders e = λ e low high. pushed_early leaders d e low (omega arith) in
    let early_rank : (x : ℕ) → 1 ≤ x → x < d → item ranks' x ≡ item ranks x = λ x low high. pushed_early ranks (n + 1) x low (omega arith) in
    let of_ranks : (P : ℕ → Type 0) → ((e : ℕ) → 1 ≤ e → e < n + 1 → P e) → P (n + 1) → (e : ℕ) → IsRank leaders' e → P e = λ P before at e h.
    or_last P (n + 1) before at e h.0 (let top = h.1 in omega arith) in
    let high : (e : ℕ) → IsRank leaders' e → item leaders' e ≤ d =
    of_ranks (λ e. item leaders' e ≤ d)
    (λ e low top. let same = early e low top in let bound = r.high e (low, omega arith) in omega arith)
    (omega arith) in
    record {
      whole = omega arith;
      few = omega arith;
      within = or_last (λ x. IsRank leaders' (item ranks' x)) d
          (λ x low top. let same = early_rank x low top in let w = r.within x low (omega arith) in let a = w.0 in let b = w.1 in (omega arith, omega arith))
          (omega arith, omega arith);
      own_class = or_last (λ x. item leaders' (item ranks' x) ≡ item c x) d
          (λ x low top.
          let w = r.within x low (omega arith) in
          ap (item leaders') (early_rank x low top) ∙ early (item ranks x) w.0 (let b = w.1 in omega arith) ∙ r.own_class x low (omega arith))
          (ap (item leaders') last_rank ∙ last ∙ sym leads);
      low = of_ranks (λ e. 1 ≤ item leaders' e)
          (λ e low top. let same = early e low top in let bound = r.low e (low, omega arith) in omega arith)
          (omega arith);
      high = high;
      own_rank = of_ranks (λ e. item ranks' (item leaders' e) ≡ e)
          (λ e low top.
          let h : IsRank leaders e = (low, omega arith) in
          let up = r.high e h in
          ap (item ranks') (early e low top) ∙ early_rank (item leaders e) (r.low e h) (omega arith) ∙ r.own_rank e h)
          (ap (item ranks') last ∙ last_rank);
      ascending = λ e e' h k up.
          of_ranks (λ x. e ≤ x → item leaders' e ≤ item leaders' x)
          (λ x low top under.
          let first = h.0 in
          let a = early e first (omega arith) in
          let b = early x low top in
          let bound = r.ascending e x (first, omega arith) (low, omega arith) under in
          omega arith)
          (λ _. let bound = high e h in omega arith)
          e' k up;
    }

-- another chamber has the rank of its leader
pub rank_of_other : (c leaders ranks : List ℕ) (d : ℕ) → HaveLeaders c → 1 ≤ d → d ≤ length c → (item c d ≡ d → ⊥) → AreRanks c leaders ranks (d - 1)
    → AreRanks c leaders (ranks ++ item ranks (item c d) ∷ []) d
rank_of_other c leaders ranks d led some top other r =
    let leader = item c d in
    let ranks' = ranks ++ item ranks leader ∷ [] in
    let whole = r.whole in
    let few = r.few in
    let low_leader = led.low d some top in
    let high_leader = led.high d some top in
    let below : leader < d = ⊎_elim (λ under. under) (λ above. absurd (other (omega arith))) (cases_lt leader d) in
    let longer : length ranks' ≡ length ranks + 1 = length-append ranks (item ranks leader ∷ []) in
    let last_rank : item ranks' d ≡ item ranks leader = pushed_last ranks (item ranks leader) d (omega arith) in
    let early_rank : (x : ℕ) → 1 ≤ x → x < d → item ranks' x ≡ item ranks x = λ x low high. pushed_early ranks (item ranks leader) x low (omega arith) in
    record {
      whole = omega arith;
      few = omega arith;
      within = or_last (λ x. IsRank leaders (item ranks' x)) d
          (λ x low high. subst (IsRank leaders) (sym (early_rank x low high)) (r.within x low (omega arith)))
          (subst (IsRank leaders) (sym last_rank) (r.within leader low_leader (omega arith)));
      own_class = or_last (λ x. item leaders (item ranks' x) ≡ item c x) d
          (λ x low high. ap (item leaders) (early_rank x low high) ∙ r.own_class x low (omega arith))
          (ap (item leaders) last_rank ∙ r.own_class leader low_leader (omega arith) ∙ led.own d some top);
      low = r.low;
      high = λ e h. let bound = r.high e h in omega arith;
      own_rank = λ e h. let bound = r.high e h in early_rank (item leaders e) (r.low e h) (omega arith) ∙ r.own_rank e h;
      ascending = r.ascending;
    }

-- the next leader is a chamber
pub leader_at : (s : Symbol) (leaders : List ℕ) (k : ℕ) → ((e : ℕ) → IsRank leaders e → IsChamber s (item leaders e)) → k < length leaders → IsChamber s (get_or leaders k 0)
leader_at s leaders k chambers below =
    let place : k + 1 - 1 ≡ k = omega arith in
    subst (λ j. IsChamber s (get_or leaders j 0)) place (chambers (k + 1) (omega arith, omega arith))
