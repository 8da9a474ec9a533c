-- The symbol of the ranks is a minimal image, and only a branching value over 30 refuses it.
use Rattle.std.proofs.Common.{◌≡◌, ◌≢◌, ℕ, ◌<◌, ◌≤◌, ◌%◌, ◌⊎◌, List, [], ◌∷◌, length, refl, sym, ap, ◌∙◌, subst, inl, inr, ⊎_elim, arith}
use Rattle.std.proofs.lemmas.Bool.{cases_lt}
use Rattle.dd_model.specs.declared.index.Index.TheVariants.{Zero, One, Two}
use Rattle.dd_model.specs.declared.pair.Pair.{Pair}
use Rattle.dd_model.specs.declared.pair.Pair.TheVariants.{Tile, Vertex, Edge}
use Rattle.dd_model.specs.Symbol.{Symbol, IsSymbol, IsChamber, AreInvolutions, item, op, operation, degree}
use Rattle.dd_model.specs.Connected.{Connected}
use Rattle.dd_model.specs.Isomorphic.{IsMorphism}
use Rattle.dd_model.specs.Cell.{IsBranching}
use Rattle.dd_model.proofs.Branching.{degree_same}
use Rattle.dd_model.proofs.CellWalks.{has_period}
use Rattle.dd_model.proofs.Turns.{period_divides, IsLeastTurns-from_period, least_turns_unique}
use Rattle.dd_symbol.specs.Building.{listed}
use Rattle.dd_symbol.specs.Refusals.{IsRefused}
use Rattle.dd_symbol.specs.Causes.{PairBefore, IsTooLarge}
use Rattle.dd_symbol.specs.Conditions.{IsMultiple, AreSmall}
use Rattle.dd_symbol.specs.declared.refusals.Refusal.{Refusal}
use Rattle.dd_symbol.specs.declared.refusals.Refusal.TheVariants.{Empty, TooManyChambers, OpRange, NotInvolution, NotCommuting, NotConnected, DegreeZero, DegreeVaries, NotMultiple, BranchingTooLarge, Memory}
use Rattle.dd_quotient.specs.Alike.{AreAlikeClasses}
use Rattle.dd_quotient.specs.MinimalImage.{IsOnto, IsMinimalImage, IsInOrder, IsEarlier, HasTooLarge}
use Rattle.dd_quotient.specs.Ranks.{IsRank, AreRanks, AreValues, image_of, degree_of, IsNumbered}
use Rattle.dd_quotient.proofs.OntoLemmas.{symbol-onto, connected-onto}

-- ## Five lists

numbered_from_values : (s : Symbol) (leaders ranks s0 s1 s2 m01 m12 : List ℕ)
    → AreValues (image_of s leaders ranks Zero) (length leaders) s0
    → AreValues (image_of s leaders ranks One) (length leaders) s1
    → AreValues (image_of s leaders ranks Two) (length leaders) s2
    → AreValues (degree_of s leaders Tile) (length leaders) m01
    → AreValues (degree_of s leaders Vertex) (length leaders) m12
    → IsNumbered s leaders ranks (listed s0 s1 s2 m01 m12)
numbered_from_values s leaders ranks s0 s1 s2 m01 m12 a b c x y =
    let size = sym a.whole in
    record {
      lengths = record {
        lengths = λ i. elim i as (λ j. length (operation (listed s0 s1 s2 m01 m12) j) ≡ length s0) [ Zero ↦ refl | One ↦ b.whole ∙ size | Two ↦ c.whole ∙ size ];
        m01_length = x.whole ∙ size;
        m12_length = y.whole ∙ size;
      };
      size = a.whole;
      op = λ i e h. elim i as (λ j. op (listed s0 s1 s2 m01 m12) j e ≡ image_of s leaders ranks j e) [ Zero ↦ a.each e h.0 h.1 | One ↦ b.each e h.0 h.1 | Two ↦ c.each e h.0 h.1 ];
      degree = λ p e h. elim p as (λ q. degree (listed s0 s1 s2 m01 m12) q e ≡ degree_of s leaders q e) [ Tile ↦ x.each e h.0 h.1 | Vertex ↦ y.each e h.0 h.1 | Edge ↦ refl ];
    }

leaders_are_chambers : (s : Symbol) (c leaders ranks : List ℕ) → AreRanks c leaders ranks s.size → (e : ℕ) → IsRank leaders e → IsChamber s (item leaders e)
leaders_are_chambers s c leaders ranks r e h = (r.low e h, r.high e h)

-- m is made of the classes of s
pub record IsMadeOf (s : Symbol) (c leaders ranks : List ℕ) (m : Symbol) : Type 0 where
  pub classes : AreAlikeClasses s c
  pub ranked : AreRanks c leaders ranks s.size
  pub numbered : IsNumbered s leaders ranks m

-- What the five lists are made of, read through copies of the symbol and of the lists.
pub made_from_values : {s t : Symbol} {c cs leaders ls ranks rs s0 s1 s2 m01 m12 : List ℕ} → t ≡ s → AreAlikeClasses s c → cs ≡ c
    → AreRanks cs leaders ranks (length cs) → ls ≡ leaders → rs ≡ ranks
    → AreValues (image_of t ls rs Zero) (length ls) s0 → AreValues (image_of t ls rs One) (length ls) s1 → AreValues (image_of t ls rs Two) (length ls) s2
    → AreValues (degree_of t ls Tile) (length ls) m01 → AreValues (degree_of t ls Vertex) (length ls) m12
    → IsMadeOf s c leaders ranks (listed s0 s1 s2 m01 m12)
made_from_values {s = s} {t = t} {c = c} {cs = cs} {leaders = leaders} {ls = ls} {ranks = ranks} {rs = rs} {s0 = s0} {s1 = s1} {s2 = s2} {m01 = m01} {m12 = m12} et a ec r el er v0 v1 v2 x01 x12 =
    let m = listed s0 s1 s2 m01 m12 in
    let there : IsNumbered t ls rs m = numbered_from_values t ls rs s0 s1 s2 m01 m12 v0 v1 v2 x01 x12 in
    record {
      classes = a;
      ranked = subst (AreRanks c leaders ranks) a.images (subst (λ xs. AreRanks xs leaders ranks (length xs)) ec r);
      numbered = subst (λ u. IsNumbered u leaders ranks m) et (subst (λ xs. IsNumbered t xs ranks m) el (subst (λ xs. IsNumbered t ls xs m) er there));
    }

-- ## A morphism onto the symbol of the ranks

-- chambers of one class have one rank
same_rank : (s : Symbol) (c leaders ranks : List ℕ) → AreRanks c leaders ranks s.size → (d e : ℕ) → IsChamber s d → IsChamber s e → item c d ≡ item c e → item ranks d ≡ item ranks e
same_rank s c leaders ranks r d e h k same =
    sym (r.own_rank (item ranks d) (r.within d h.0 h.1))
    ∙ ap (item ranks) (r.own_class d h.0 h.1 ∙ same ∙ sym (r.own_class e k.0 k.1))
    ∙ r.own_rank (item ranks e) (r.within e k.0 k.1)

morphism : (s : Symbol) (c leaders ranks : List ℕ) (m : Symbol) → AreInvolutions s → AreAlikeClasses s c → AreRanks c leaders ranks s.size → IsNumbered s leaders ranks m → IsMorphism s m ranks
morphism s c leaders ranks m inv a r n =
    let size = n.size in
    let led : (d : ℕ) → IsChamber s d → item leaders (item ranks d) ≡ item c d = λ d h. r.own_class d h.0 h.1 in
    record {
      images = r.whole;
      within = λ d h. let w = r.within d h.0 h.1 in (w.0, let top = w.1 in omega arith);
      op = λ i d h.
          let own = a.within d h in
          same_rank s c leaders ranks r (op s i d) (op s i (item c d)) ((inv i).within d h) ((inv i).within (item c d) own)
          (sym ((a.alike (op s i (item c d)) (op s i d) ((inv i).within (item c d) own) ((inv i).within d h)).1 (λ w. a.member d h (i ∷ w))))
          ∙ ap (λ x. item ranks (op s i x)) (sym (led d h))
          ∙ sym (n.op i (item ranks d) (r.within d h.0 h.1));
      m01 = λ d h. n.degree Tile (item ranks d) (r.within d h.0 h.1) ∙ ap (item s.m01) (led d h) ∙ (a.member d h []).0;
      m12 = λ d h. n.degree Vertex (item ranks d) (r.within d h.0 h.1) ∙ ap (item s.m12) (led d h) ∙ (a.member d h []).1;
    }

onto : (s : Symbol) (c leaders ranks : List ℕ) (m : Symbol) → AreRanks c leaders ranks s.size → IsNumbered s leaders ranks m → IsOnto s m ranks
onto s c leaders ranks m r n e h =
    let size = n.size in
    let rank : IsRank leaders e = (h.0, let top = h.1 in omega arith) in
    record { chamber = item leaders e; is_chamber = leaders_are_chambers s c leaders ranks r e rank; leads = r.own_rank e rank }

pub made_image : (s : Symbol) (c leaders ranks : List ℕ) (m : Symbol) → IsSymbol s → IsMadeOf s c leaders ranks m → IsMinimalImage s m ranks
made_image s c leaders ranks m is made =
    let a = made.classes in
    let r = made.ranked in
    let n = made.numbered in
    let mor = morphism s c leaders ranks m is.table.involutions a r n in
    let all = onto s c leaders ranks m r n in
    record {
      symbol = symbol-onto s m ranks is mor all n.lengths;
      morphism = mor;
      onto = all;
      alike = λ d e h k. (
        λ same. (a.alike d e h k).0 (sym (r.own_class d h.0 h.1) ∙ ap (item leaders) same ∙ r.own_class e k.0 k.1),
        λ alike. same_rank s c leaders ranks r d e h k ((a.alike d e h k).1 alike),
      );
    }

-- the leader of a smaller rank is an earlier chamber
pub made_in_order : (s : Symbol) (c leaders ranks : List ℕ) (m : Symbol) → IsMadeOf s c leaders ranks m → IsInOrder s ranks
made_in_order s c leaders ranks m made d e h low below =
    let a = made.classes in
    let r = made.ranked in
    let w = r.within d h.0 h.1 in
    let rank : IsRank leaders e = (low, let top = w.1 in omega arith) in
    let up = r.ascending e (item ranks d) rank w (omega arith) in
    let own = r.own_class d h.0 h.1 in
    let least = a.least d d h h (λ v. (refl, refl)) in
    let back = r.own_rank e rank in
    record {
      chamber = item leaders e;
      low = r.low e rank;
      before = ⊎_elim
          (λ under. under)
          (λ above.
          let same : item leaders e ≡ d = omega arith in
          let there : item ranks d ≡ e = ap (item ranks) (sym same) ∙ back in
          absurd (omega arith))
          (cases_lt (item leaders e) d);
      leads = back;
    }

-- ## Which refusals can come

multiple : (s : Symbol) → IsSymbol s → (p : Pair) (d : ℕ) → IsChamber s d → IsMultiple s p d
multiple s is p d h r turns =
    let inv = is.table.involutions in
    let has = has_period s inv p d h in
    let same : has.r ≡ r = least_turns_unique s p d has.r r (IsLeastTurns-from_period s inv p d has.r h has.period) turns in
    subst (λ x. degree s p d % x ≡ 0) same (period_divides s p d has.r (degree s p d) has.period (is.degrees p d h).turns)

-- A connected symbol that is not too long is refused for want of memory, or for a branching value over 30.
only_large : (limit : ℕ) (m : Symbol) (why : Refusal) → IsSymbol m → Connected m → m.size ≤ limit → IsRefused limit m why
    → why ≢ Memory → ((p : Pair) (d v : ℕ) → why ≢ BranchingTooLarge p d v) → ⊥
only_large limit m Empty is all few none _ _ = let some = is.table.chambers in omega arith
only_large limit m (TooManyChambers n) is all few many _ _ = let same = many.0 in let over = many.1 in omega arith
only_large limit m (OpRange i d) is all few fault _ _ = let f = fault.1.first in f.fails ((is.table.involutions i).within d f.chamber)
only_large limit m (NotInvolution i d) is all few fault _ _ = let f = fault.1.first in f.fails ((is.table.involutions i).involutive d f.chamber)
only_large limit m (NotCommuting d) is all few fault _ _ = let f = fault.1.first in f.fails (is.degrees Edge d f.chamber).turns
only_large limit m (NotConnected d) is all few fault _ _ = let f = fault.1.first in f.fails (all d f.chamber)
only_large limit m (DegreeZero p d) is all few fault _ _ =
    let f = fault.1.first in
    let some = (is.degrees p d f.chamber).positive in
    let none = f.fails in
    omega arith
only_large limit m (DegreeVaries p d) is all few fault _ _ =
    let f = fault.1.first in
    let there = f.fails.is_least.in_cell in
    f.fails.other (sym (degree_same m is p there.word d f.chamber there.letters) ∙ ap (degree m p) there.leads)
only_large limit m (NotMultiple p d r k) is all few fault _ _ =
    let f = fault.1.first in
    f.fails (ap (λ x. x % r) fault.1.degree ∙ multiple m is p d f.chamber r fault.1.turns)
only_large limit m (BranchingTooLarge p d v) is all few fault _ other = other p d v refl
only_large limit m Memory is all few fault some _ = some refl

-- So an image of a connected symbol is.
pub made_only_large : (s : Symbol) (c leaders ranks : List ℕ) (m : Symbol) (why : Refusal) → IsSymbol s → s.size ≤ 16384 → Connected s → IsMadeOf s c leaders ranks m
    → IsRefused 16384 m why → why ≢ Memory → ((p : Pair) (d v : ℕ) → why ≢ BranchingTooLarge p d v) → ⊥
made_only_large s c leaders ranks m why is few all made refused some other =
    let image = made_image s c leaders ranks m is made in
    let size = made.numbered.size in
    let less = made.ranked.few in
    only_large 16384 m why image.symbol (connected-onto s m ranks is.table image.morphism image.onto image.symbol.table.chambers all) (omega arith) refused some other

-- ## The first branching value over 30

tile_or_vertex : (p : Pair) (m : Symbol) → PairBefore (AreSmall m) p → (p ≡ Tile) ⊎ (p ≡ Vertex)
tile_or_vertex Tile m before = inl refl
tile_or_vertex Vertex m before = inr refl
tile_or_vertex Edge m before = absurd before

-- what comes before a leader has a rank before that of the leader
rank_before : (s : Symbol) (c leaders ranks : List ℕ) → AreAlikeClasses s c → AreRanks c leaders ranks s.size → (d e : ℕ) → IsChamber s d → IsRank leaders e → d < item leaders e → item ranks d < e
rank_before s c leaders ranks a r d e h rank below =
    let low = a.least d d h h (λ w. (refl, refl)) in
    let own = r.own_class d h.0 h.1 in
    ⊎_elim
    (λ under. under)
    (λ above.
    let up = r.ascending e (item ranks d) rank (r.within d h.0 h.1) above in
    absurd (omega arith))
    (cases_lt (item ranks d) e)

small_before : (s : Symbol) (c leaders ranks : List ℕ) (m : Symbol) → AreAlikeClasses s c → AreRanks c leaders ranks s.size → IsMinimalImage s m ranks
    → (q p : Pair) (d e u v : ℕ) → IsChamber s d → IsRank leaders e → IsTooLarge m p e v → IsEarlier q d p (item leaders e) → IsBranching m q (item ranks d) u → u ≤ 30
small_before s c leaders ranks m a r image Tile Tile d e u v h rank fault earlier value =
    fault.first.before (item ranks d) (image.morphism.within d h) (rank_before s c leaders ranks a r d e h rank earlier) u value
small_before s c leaders ranks m a r image Tile Vertex d e u v h rank fault earlier value = fault.before (item ranks d) (image.morphism.within d h) u value
small_before s c leaders ranks m a r image Vertex Vertex d e u v h rank fault earlier value =
    fault.first.before (item ranks d) (image.morphism.within d h) (rank_before s c leaders ranks a r d e h rank earlier) u value
small_before s c leaders ranks m a r image Tile Edge d e u v h rank fault earlier value = absurd earlier
small_before s c leaders ranks m a r image Vertex Tile d e u v h rank fault earlier value = absurd earlier
small_before s c leaders ranks m a r image Vertex Edge d e u v h rank fault earlier value = absurd earlier
small_before s c leaders ranks m a r image Edge p d e u v h rank fault earlier value = absurd earlier

pub made_too_large : (s : Symbol) (c leaders ranks : List ℕ) (m : Symbol) (p : Pair) (e v : ℕ) → IsSymbol s → IsMadeOf s c leaders ranks m
    → IsRefused 16384 m (BranchingTooLarge p e v) → HasTooLarge s v
made_too_large s c leaders ranks m p e v is made refused =
    let a = made.classes in
    let r = made.ranked in
    let image = made_image s c leaders ranks m is made in
    let fault = refused.1 in
    let h = fault.first.chamber in
    let size = made.numbered.size in
    let rank : IsRank leaders e = (h.0, let top = h.1 in omega arith) in
    record {
      image = m;
      map = ranks;
      first = record {
        image = image;
        pair = p;
        tile_or_vertex = tile_or_vertex p m fault.before;
        chamber = item leaders e;
        is_chamber = leaders_are_chambers s c leaders ranks r e rank;
        branching = subst (λ x. IsBranching m p x v) (sym (r.own_rank e rank)) fault.value;
        large = fault.first.fails;
        first = λ q d u hd earlier value. small_before s c leaders ranks m a r image q p d e u v hd rank fault earlier value;
      };
    }
