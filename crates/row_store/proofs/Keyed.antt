-- Keys of rows are integers, which an index over their columns tells as the table's own index does.
use Rattle.std.proofs.Common.{◌≡◌, ℤ, pos, List, [], ◌∷◌, true, is_eq, refl, ap, ◌∙◌}
use Rattle.std.proofs.lemmas.Cmp.{tied_itself}
use Rattle.sqlite.specs.declared.types.Value.TheVariants.{Int}
use Rattle.sqlite.specs.Order.{Row, column}
use Rattle.sqlite_rules.specs.Lists.{Has}
use Rattle.sqlite_schema.specs.Rules.{agree, equal}
use Rattle.sqlite_sql.specs.Ops.{binary}
use Rattle.sqlite_value.specs.Keys.{plain}
use Rattle.sqlite_value.specs.declared.keys.Collation.{Collation}
use Rattle.sqlite_value.specs.declared.keys.Collation.TheVariants.{Binary, NoCase, RTrim}
use Rattle.sqlite_value.specs.declared.keys.Order.{Order}
use Rattle.sqlite_value.proofs.KeyLemmas.{first_key-plain}
use Rattle.sqlite_value.proofs.OrderLemmas.{value_cmp_total}
use Rattle.sqlite_value.specs.Order.{value_cmp}
use Rattle.desk_packing.specs.Lines.{Line}
use Rattle.row_store.specs.Stored.{Holds}
use Rattle.row_store.proofs.Found.{shown_of}
use Rattle.row_store.proofs.Lines.{row_of, true_of}

-- the three columns of the key are integers
pub record IsKeyed (row : Row) : Type 0 where
  pub kind : ℤ
  pub owner : ℤ
  pub place : ℤ
  pub kind_is : column row 1 ≡ Int kind
  pub owner_is : column row 2 ≡ Int owner
  pub place_is : column row 3 ≡ Int place

-- so are those of each stored row
pub keyed_of : (rows : List Row) (lines : List Line) → Holds rows lines → (r : Row) → Has rows r → IsKeyed r
keyed_of rows lines holds r there =
    let x = shown_of rows lines holds r there in
    record {
      kind = pos x.0.kind;
      owner = pos x.0.owner;
      place = pos x.0.place;
      kind_is = ap (λ s. column s 0) x.1;
      owner_is = ap (λ s. column s 1) x.1;
      place_is = ap (λ s. column s 2) x.1;
    }

-- and those of the row of a line
pub keyed_row : (id : ℤ) (l : Line) → IsKeyed (row_of id l)
keyed_row id l = record {
  kind = pos l.kind;
  owner = pos l.owner;
  place = pos l.place;
  kind_is = refl;
  owner_is = refl;
  place_is = refl;
}

-- an integer equals itself
equal_itself : (n : ℤ) → equal Binary (Int n) (Int n) ≡ true
unfolding binary
equal_itself n = true_of (is_eq (value_cmp (Int n) (Int n))) ∙ ap is_eq (tied_itself value_cmp_total (Int n))

-- so a key of integers is the key of its row
pub agree_itself : (a : Row) → IsKeyed a → agree plain (1 ∷ 2 ∷ 3 ∷ []) a (1 ∷ 2 ∷ 3 ∷ []) a ≡ true
agree_itself a k =
    rw (k.kind_is, k.owner_is, k.place_is)
    (rw (first_key-plain, equal_itself k.kind, equal_itself k.owner, equal_itself k.place) refl)

-- one of the rows has the key of this one
abbrev pub HasKeyOf : List Row → Row → Type 0
HasKeyOf rows x = (y : Row) × Has rows y × (agree plain (1 ∷ 2 ∷ 3 ∷ []) x (1 ∷ 2 ∷ 3 ∷ []) y ≡ true)

-- no key is lost
abbrev pub KeysStay : List Row → List Row → Type 0
KeysStay old new = (x : Row) → Has old x → HasKeyOf new x

equal_any : (how : Collation) (a b : ℤ) → equal how (Int a) (Int b) ≡ equal Binary (Int a) (Int b)
unfolding binary
equal_any Binary a b = refl
equal_any NoCase a b = refl
equal_any RTrim a b = refl

-- the order of an index decides no key of integers
pub agree_any : (o : Order) (a b : Row) → IsKeyed a → IsKeyed b
    → agree o (1 ∷ 2 ∷ 3 ∷ []) a (1 ∷ 2 ∷ 3 ∷ []) b ≡ agree plain (1 ∷ 2 ∷ 3 ∷ []) a (1 ∷ 2 ∷ 3 ∷ []) b
agree_any o a b ka kb =
    rw (ka.kind_is, ka.owner_is, ka.place_is, kb.kind_is, kb.owner_is, kb.place_is)
    (rw (equal_any _ ka.kind kb.kind) (rw (equal_any _ ka.owner kb.owner) (rw (equal_any _ ka.place kb.place)
    (rw first_key-plain refl))))
