-- What a search has found and what is left are what is under the prefix where it began.
use Rattle.std.proofs.Common.{◌≡◌, ◌↔◌, ◌⊎◌, ℕ, List, [], ◌++◌, refl, sym, ap, ◌∙◌, inl, inr, ⊎_elim, arith}
use Rattle.std.proofs.lemmas.List.{append_assoc, append-nil}
use Rattle.std.proofs.lemmas.List.Elements.{Contains-append_right, Contains-append_left, Contains-append_cases}
use Rattle.std.specs.List.{Contains}
use Rattle.dd_model.specs.Symbol.{Symbol}
use Rattle.dd_model.specs.Code.{IsBelow}
use Rattle.dd_model.specs.Wanted.{IsAscending}
use Rattle.dd_model.specs.declared.requests.Request.{Request}
use Rattle.dd_model.proofs.Ascending.{ascending-append}
use Rattle.dd_front_jobs.specs.Under.{IsUnder, AreUnder, Appends}
use Rattle.dd_branch_tables.specs.Search.{SearchLaws}
use Rattle.dd_branch_tables.specs.Levels.{IsAt, IsLeft, IsLeftAt, first_at}
use Rattle.dd_branch_tables.specs.declared.level.Level.{Level}

module _ {S : Type 0} (laws : SearchLaws S) where
  -- Of what is under the prefix of the first state some has been found, ascending, and the rest is left, and comes after it.
  pub record AreFound (begun state : S) (levels : List Level) (found : List Symbol) : Type 0 where
    pub ascending : IsAscending found
    pub all : (s : Symbol) → IsUnder (laws.wanted (laws.request begun)) (laws.size begun) (laws.prefix begun) s
        ↔ (Contains found s ⊎ IsLeftAt laws (laws.wanted (laws.request begun)) (laws.size begun) state levels s)
    pub before : (s t : Symbol) → Contains found s → IsLeftAt laws (laws.wanted (laws.request begun)) (laws.size begun) state levels t → IsBelow s t

  -- The search stands at its last level, and what it has found has been added to a list.
  pub record HasFound (begun : S) (old : List Symbol) (state : S) (levels : List Level) (new : List Symbol) : Type 0 where
    pub valid_now : laws.valid state
    pub same_request : laws.request state ≡ laws.request begun
    pub same_size : laws.size state ≡ laws.size begun
    pub at : IsAt laws state levels
    pub same_first : first_at laws state levels ≡ begun
    pub list : Appends (AreFound begun state levels) old new

  -- nothing has been found yet
  pub none_found : (begun : S) (levels : List Level) (old : List Symbol) → laws.valid begun → IsAt laws begun levels → first_at laws begun levels ≡ begun
      → ((s : Symbol) → IsUnder (laws.wanted (laws.request begun)) (laws.size begun) (laws.prefix begun) s ↔ IsLeftAt laws (laws.wanted (laws.request begun)) (laws.size begun) begun levels s)
      → HasFound begun old begun levels old
  none_found begun levels old v at same left = record {
    valid_now = v;
    same_request = refl;
    same_size = refl;
    at = at;
    same_first = same;
    list = record {
      list = [];
      grown = sym (append-nil old);
      holds = record {
        ascending = tt;
        all = λ s. ((λ under. inr ((left s).0 under)), (λ either. ⊎_elim (λ none. absurd (omega (arith, none.1))) (λ l. (left s).1 l) either));
        before = λ s t none l. absurd (omega (arith, none.1));
      };
    };
  }

  -- what is under the next whole prefix has been added
  pub more_found : (begun old_state state back : S) (old_levels levels : List Level) (old mid new : List Symbol) → HasFound begun old old_state old_levels mid
      → laws.valid back → laws.request back ≡ laws.request begun → laws.size back ≡ laws.size begun → IsAt laws back levels → first_at laws back levels ≡ begun
      → ((s : Symbol) → IsLeftAt laws (laws.wanted (laws.request begun)) (laws.size begun) old_state old_levels s
      ↔ (IsUnder (laws.wanted (laws.request begun)) (laws.size begun) (laws.prefix state) s ⊎ IsLeft laws (laws.wanted (laws.request begun)) (laws.size begun) state levels s))
      → ((s t : Symbol) → IsUnder (laws.wanted (laws.request begun)) (laws.size begun) (laws.prefix state) s → IsLeft laws (laws.wanted (laws.request begun)) (laws.size begun) state levels t → IsBelow s t)
      → ((s : Symbol) → IsLeft laws (laws.wanted (laws.request begun)) (laws.size begun) state levels s ↔ IsLeftAt laws (laws.wanted (laws.request begun)) (laws.size begun) back levels s)
      → Appends (AreUnder (laws.wanted (laws.request begun)) (laws.size begun) (laws.prefix state)) mid new → HasFound begun old back levels new
  more_found begun old_state state back old_levels levels old mid new found v q n at same parts order left more =
      let ss = found.list.list in
      let ts = more.list in
      let had = found.list.holds in
      record {
        valid_now = v;
        same_request = q;
        same_size = n;
        at = at;
        same_first = same;
        list = record {
          list = ss ++ ts;
          grown = more.grown ∙ ap (λ xs. xs ++ ts) found.list.grown ∙ append_assoc old ss ts;
          holds = record {
            ascending = ascending-append ss ts had.ascending more.holds.ascending (λ s t hs ht. had.before s t hs ((parts t).1 (inl ((more.holds.members t).0 ht))));
            all = λ s. (
              (λ under. ⊎_elim
                  (λ early. inl (Contains-append_left ss ts s early))
                  (λ later. ⊎_elim (λ here. inl (Contains-append_right ss ts s ((more.holds.members s).1 here))) (λ rest. inr ((left s).0 rest)) ((parts s).0 later))
                  ((had.all s).0 under)),
              (λ either. ⊎_elim
                  (λ there. ⊎_elim
                  (λ early. (had.all s).1 (inl early))
                  (λ here. (had.all s).1 (inr ((parts s).1 (inl ((more.holds.members s).0 here)))))
                  (Contains-append_cases ss ts s there))
                  (λ rest. (had.all s).1 (inr ((parts s).1 (inr ((left s).1 rest)))))
                  either),
            );
            before = λ s t there rest. ⊎_elim
                (λ early. had.before s t early ((parts t).1 (inr ((left t).1 rest))))
                (λ here. order s t ((more.holds.members s).0 here) ((left t).1 rest))
                (Contains-append_cases ss ts s there);
          };
        };
      }

  -- nothing is left
  pub all_found : (begun state : S) (levels : List Level) (old new : List Symbol) → HasFound begun old state levels new
      → ((s : Symbol) → IsLeftAt laws (laws.wanted (laws.request begun)) (laws.size begun) state levels s → ⊥)
      → Appends (AreUnder (laws.wanted (laws.request begun)) (laws.size begun) (laws.prefix begun)) old new
  all_found begun state levels old new found none = record {
    list = found.list.list;
    grown = found.list.grown;
    holds = record {
      ascending = found.list.holds.ascending;
      members = λ s. (
        (λ there. (found.list.holds.all s).1 (inl there)),
        (λ under. ⊎_elim (λ there. there) (λ l. absurd (none s l)) ((found.list.holds.all s).0 under)),
      );
    };
  }
