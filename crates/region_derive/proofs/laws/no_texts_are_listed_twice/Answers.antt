use Rattle.std.proofs.Common.{inl, inr, sym}
use Rattle.std.proofs.lemmas.Bool.{cases_order}
use Rattle.region_derive.proofs.laws.no_texts_are_listed_twice.Goals as goal

pub returns : goal.returns
returns c = elim (cases_order c.args.row c.args.other) [
  | inl equal ↦ equal
  | inr (inl before) ↦ absurd (c.requires.other.first c.args.row before c.requires.same)
  | inr (inr following) ↦ absurd (c.requires.derived.first c.args.other following (sym c.requires.same))
]
