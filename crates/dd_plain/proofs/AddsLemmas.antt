-- How a part of the catalogue grows.
use Rattle.std.proofs.Common.{◌≡◌, ◌⊎◌, ◌↔◌, List, sym, subst, inl, inr, ⊎_elim}
use Rattle.std.specs.List.{Contains}
use Rattle.dd_model.specs.declared.requests.Request.{Request}
use Rattle.dd_model.specs.Symbol.{Symbol}
use Rattle.dd_model.specs.Wanted.{IsMember}
use Rattle.dd_plain.specs.Adds.{Adds}

-- no member is missing
pub nothing_added : (q : Request) (P : Symbol → Type 0) (old : List Symbol) → ((s : Symbol) → P s → IsMember q s → ⊥) → Adds q P old old
nothing_added q P old none = record {
  kept = λ s h. h;
  sound = λ s h. inl h;
  complete = λ s p member. absurd (none s p member);
}

-- one member
pub one_added : (q : Request) (x : Symbol) (old new : List Symbol) → ((s : Symbol) → Contains new s ↔ (Contains old s ⊎ (s ≡ x))) → IsMember q x
    → Adds q (λ s. s ≡ x) old new
one_added q x old new members member = record {
  kept = λ s h. (members s).1 (inl h);
  sound = λ s h. ⊎_elim (λ before. inl before) (λ e. inr (subst (IsMember q) (sym e) member)) ((members s).0 h);
  complete = λ s p _. (members s).1 (inr p);
}

-- members at which R holds after those at which P holds
pub both_added : (q : Request) (P R S : Symbol → Type 0) (a b c : List Symbol) → ((s : Symbol) → S s → P s ⊎ R s) → Adds q P a b → Adds q R b c → Adds q S a c
both_added q P R S a b c split g h = record {
  kept = λ s x. h.kept s (g.kept s x);
  sound = λ s x. ⊎_elim (λ before. g.sound s before) (λ new. inr new) (h.sound s x);
  complete = λ s p member. ⊎_elim (λ x. h.kept s (g.complete s x member)) (λ x. h.complete s x member) (split s p);
}

-- the same members, said otherwise
pub added_otherwise : (q : Request) (P R : Symbol → Type 0) (a b : List Symbol) → ((s : Symbol) → R s → IsMember q s → P s) → Adds q P a b → Adds q R a b
added_otherwise q P R a b to g = record {
  kept = g.kept;
  sound = g.sound;
  complete = λ s r member. g.complete s (to s r member) member;
}
