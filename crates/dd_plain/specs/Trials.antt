-- What a choice of five numbers stands for.
use Rattle.std.specs.Prelude.{◌≡◌}
use Rattle.dd_model.specs.Symbol.{Symbol}
use Rattle.dd_plain.specs.Choices.{choices, chamber_table, degree_table}
use Rattle.dd_plain.specs.declared.trials.Trial.{Trial}

-- the five lists of a trial
abbrev pub tried : Trial → Symbol
tried t = record {
  size = t.size;
  s0 = choices chamber_table t.size t.s0;
  s1 = choices chamber_table t.size t.s1;
  s2 = choices chamber_table t.size t.s2;
  m01 = choices degree_table t.size t.m01;
  m12 = choices degree_table t.size t.m12;
}

-- as many chambers, and the same three involutions
pub record HasImages (s t : Symbol) : Type 0 where
  pub size : t.size ≡ s.size
  pub s0 : t.s0 ≡ s.s0
  pub s1 : t.s1 ≡ s.s1
  pub s2 : t.s2 ≡ s.s2

-- the same tiles: the same involutions, and the same degrees of tiles
pub record HasTiles (s t : Symbol) : Type 0 where
  pub images : HasImages s t
  pub m01 : t.m01 ≡ s.m01
