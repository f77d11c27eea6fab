use Rattle.std.proofs.Common.{◌≡◌, ◌==◌, ◌&&◌, ℕ, ap}
use Rattle.std.specs.Bool.{Decides}
use Rattle.std.proofs.lemmas.Bool.Decides.{Decides-and, Decides-eqb, Decides-like}
use Rattle.std.proofs.lemmas.Slice.Eq.{slice_eq-Decides}
use Rattle.fix_model.proofs.sharing.have_same_keys.Goals as goal

-- two keys are one where their attributes and their columns are
same_key : (one other : ℕ × ℕ) → Decides ((one.0 == other.0) && (one.1 == other.1)) (one ≡ other)
same_key one other =
    Decides-like ((one.0 == other.0) && (one.1 == other.1)) (λ both. λ i. (both.0 i, both.1 i))
    (λ same. (ap (λ (key : ℕ × ℕ). key.0) same, ap (λ (key : ℕ × ℕ). key.1) same))
    (Decides-and (one.0 == other.0) (one.1 == other.1) (Decides-eqb one.0 other.0) (Decides-eqb one.1 other.1))

pub returns : goal.returns
returns c = slice_eq-Decides {E = λ one other. (one.0 == other.0) && (one.1 == other.1)} same_key c.args.rule.now.keys
    c.args.other.now.keys c.eq.result (rw (c.as_slice.ensures, c.as_slice-2.ensures) at c.eq.ensures)
