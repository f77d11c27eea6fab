-- What a room ends as, where one of its items was lent.
use Rattle.std.specs.Prelude.{ℕ, slice_set}
use Rattle.std.specs.Borrow.{Lends, MutBor, Fml, RattleType}
use Rattle.desk_base.specs.Roomy.{Roomy}
use Rattle.desk_base.specs.contracts.room.Room.{the_row}

-- the room ends with the item at the place as it was left, and all else as it was
abbrev pub LendsSlot : (T : RattleType) → MutBor (Roomy T.Denot) → ℕ → MutBor T.Denot → Fml
LendsSlot T s place r = Lends (the_row T) T s r
    (λ w. record { items = slice_set s.now.items place w; spare = s.now.spare })
