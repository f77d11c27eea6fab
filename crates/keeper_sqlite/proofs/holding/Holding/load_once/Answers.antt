use Rattle.std.proofs.Common.{ap, inl, is_some, refl, rules, sym, true≢false, ◌∙◌}
use Rattle.desk_words.specs.Tables.{rows_of}
use Rattle.sqlite.specs.Held.{state}
use Rattle.desk_base.proofs.Options.{None-from_is_some}
use Rattle.keeper_sqlite.proofs.Keeps.{keeps_same, known_lasts}
use Rattle.keeper_sqlite.proofs.Tells.{loaded_first, stay_same}
use Rattle.keeper_sqlite.proofs.holding.Holding.load_once.Goals as goal

pub returns-then-is_some-clause-told : goal.returns-then-is_some-clause-told
returns-then-is_some-clause-told g c = rw (← c.self.view_is) (record {
  loaded = tt;
  whole = tt;
  unchanged = stay_same _;
})

pub returns-then-is_some-clause-loads : goal.returns-then-is_some-clause-loads
returns-then-is_some-clause-loads g c =
    let s = state g.S.Store c.self.inside.connection in
    let (autocommit, unlimited, knows) = c.self.invariant in
    let known = sym c.is_some.ensures ∙ c.if-is_some.true in
    rw (← c.self.view_is) (record {
      leaves = record {
        held = tt;
        keeps = keeps_same s (known_lasts s c.self.inside.shape known knows);
        lasts = tt;
        spares = λ clean opened. (opened, inl refl);
      };
      once = λ some. (refl, refl);
      fails = λ failed first. absurd (true≢false (sym known ∙ ap is_some first));
    })

pub returns-clause-told : goal.returns-clause-told
returns-clause-told g c =
    let first = None-from_is_some c.self.inside.shape (sym c.is_some.ensures ∙ c.if-is_some.false) in
    rw (← c.self.view_is) (record {
      loaded = loaded_first rows_of c.load.result (state g.S.Store c.self.inside.connection)
          (state g.S.Store c.load.new.self.connection) c.self.inside.shape c.load.new.self.lengths first
          c.load.ensures.leaves.held;
      whole = c.load.ensures.whole;
      unchanged = search rules;
    })

pub returns-clause-loads : goal.returns-clause-loads
returns-clause-loads g c = record {
  leaves = c.load.ensures.leaves;
  once = search rules;
  fails = λ failed first clean. c.load.ensures.fails failed clean;
}
