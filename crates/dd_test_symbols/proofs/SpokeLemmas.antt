-- Edges that are added to a net.
use Rattle.std.proofs.Common.{◌≡◌, ℕ, ◌+◌, ◌<◌, ◌≤◌, List, [], ◌∷◌, ◌++◌, length, get_or, refl, sym, ap, ◌∙◌, subst, ⊎_elim, arith}
use Rattle.std.proofs.lemmas.Bool.{cases_eq}
use Rattle.std.proofs.lemmas.List.{length-append, get_or_append_left, get_or_push}
use Rattle.dd_lattice.specs.Joined.{AreJoined}
use Rattle.dd_lattice.specs.declared.net_edge.NetEdge.{NetEdge}
use Rattle.dd_test_symbols.specs.Spokes.{AreJoinedBelow}

pub joined_none : (n : ℕ) → AreJoinedBelow n 2 []
joined_none n = record {
  from = λ k e l. absurd (omega arith);
  to = λ k e l. absurd (omega arith);
  joined = λ h all v low high. let one : v ≡ 1 = omega arith in ap h one;
}

-- what holds of the edges so far and of one more
each_more : (P : NetEdge → Type 0) (xs : List NetEdge) (x : NetEdge) → ((k : ℕ) (e : NetEdge) → k < length xs → P (get_or xs k e)) → P x
    → (k : ℕ) (e : NetEdge) → k < length (xs ++ x ∷ []) → P (get_or (xs ++ x ∷ []) k e)
each_more P xs x all here k e l = ⊎_elim
    (λ last. subst P (sym (get_or_push xs x e k (sym last))) here)
    (λ early. let low : k < length xs = omega (arith, length-append xs (x ∷ [])) in subst P (sym (get_or_append_left xs (x ∷ []) e k low)) (all k e low))
    (cases_eq k (length xs))

-- and what holds of all of them holds of those so far
each_fewer : (P : NetEdge → Type 0) (xs : List NetEdge) (x : NetEdge) → ((k : ℕ) (e : NetEdge) → k < length (xs ++ x ∷ []) → P (get_or (xs ++ x ∷ []) k e))
    → (k : ℕ) (e : NetEdge) → k < length xs → P (get_or xs k e)
each_fewer P xs x all k e l = subst P (get_or_append_left xs (x ∷ []) e k l) (all k e (omega (arith, length-append xs (x ∷ []))))

pub joined_more : (n m : ℕ) (xs ys : List NetEdge) (x : NetEdge) → ys ≡ xs ++ x ∷ [] → AreJoinedBelow n m xs → 1 ≤ x.from → x.from ≤ n → 1 ≤ x.to → x.to ≤ n
    → AreJoinedBelow n m ys
joined_more n m xs ys x is h fl fh tl th = subst (AreJoinedBelow n m) (sym is) (record {
  from = each_more (λ e. (1 ≤ e.from) × (e.from ≤ n)) xs x h.from (fl, fh);
  to = each_more (λ e. (1 ≤ e.to) × (e.to ≤ n)) xs x h.to (tl, th);
  joined = λ f all. h.joined f (each_fewer (λ e. f e.from ≡ f e.to) xs x all);
})

pub joined_next : (n m : ℕ) (xs ys : List NetEdge) (x : NetEdge) → ys ≡ xs ++ x ∷ [] → AreJoinedBelow n m xs → x.from ≡ 1 → x.to ≡ m → 1 ≤ m → m ≤ n
    → AreJoinedBelow n (m + 1) ys
joined_next n m xs ys x is h from to low high = subst (AreJoinedBelow n (m + 1)) (sym is) (record {
  from = each_more (λ e. (1 ≤ e.from) × (e.from ≤ n)) xs x h.from (omega arith, omega arith);
  to = each_more (λ e. (1 ≤ e.to) × (e.to ≤ n)) xs x h.to (omega arith, omega arith);
  joined = λ f all v l r. ⊎_elim
      (λ new. ap f (new ∙ sym to) ∙ sym (last f all) ∙ ap f from)
      (λ old. h.joined f (each_fewer (λ e. f e.from ≡ f e.to) xs x all) v l (omega arith))
      (cases_eq v m);
})
  where
    last : (f : ℕ → ℕ) → ((k : ℕ) (e : NetEdge) → k < length (xs ++ x ∷ []) → f (get_or (xs ++ x ∷ []) k e).from ≡ f (get_or (xs ++ x ∷ []) k e).to) → f x.from ≡ f x.to
    last f all = subst (λ e. f e.from ≡ f e.to) (get_or_push xs x x (length xs) refl) (all (length xs) x (omega (arith, length-append xs (x ∷ []))))

pub connected : (n : ℕ) (edges : List NetEdge) → 1 ≤ n → AreJoinedBelow n (n + 1) edges → AreJoined n edges
connected n edges some h = record { some = some; from = h.from; to = h.to; joined = λ f all v is. h.joined f all v is.0 (let b = is.1 in omega arith) }
