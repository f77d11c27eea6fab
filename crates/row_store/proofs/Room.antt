-- An edit that puts the row of a line is refused only where the line is huge.
use Rattle.std.proofs.Common.{◌≡◌, ◌⊎◌, inl, inr, ℕ, zero, suc, ℤ, pos, ◌+◌, ◌≤◌, ◌^◌, List, [], ◌∷◌, length, map, true}
use Rattle.std.proofs.Common.{Option, Err, refl, sym, ap, fold, subst, ◌∙◌, arith, true≢false, length-append, negsuc}
use Rattle.std.proofs.Common.{sum_by}
use Rattle.std.specs.Float.{NotNan, float_zero}
use Rattle.std.specs.Int.{bit_at}
use Rattle.std.specs.List.{AllByRecursion}
use Rattle.std.proofs.lemmas.List.{length-map}
use Rattle.std.proofs.lemmas.List.Elements.{All-from_recursion}
use Rattle.std.proofs.lemmas.Bool.{cases_lt}
use Rattle.std.proofs.lemmas.Nat.Bits.{bit_at-zero}
use Rattle.sqlite.specs.Order.{Row, column}
use Rattle.sqlite.specs.Schema.{Schema}
use Rattle.sqlite.specs.Tree.{Trees, with_tree}
use Rattle.sqlite.specs.declared.types.Value.TheVariants.{Blob, Int}
use Rattle.sqlite_rules.specs.Action.{Leads, Writes, works}
use Rattle.sqlite_rules.specs.Edit.{Edit, are_fresh, edited, is_referred, left_by, taken_by, IsOversized, IsRefused}
use Rattle.sqlite_rules.specs.declared.error.Refusal.{Refusal}
use Rattle.sqlite_rules.specs.declared.error.Refusal.TheVariants.{Violates, Mismatch, NoRowid, BadReference, TooDeep}
use Rattle.sqlite_schema.specs.Rules.{Keeps, table_reals, index_reals}
use Rattle.sqlite_schema.specs.declared.schema.Constraint.TheVariants.{Datatype, NotNull, Check, PrimaryKey, Unique}
use Rattle.sqlite_schema.specs.declared.schema.Constraint.TheVariants.{ForeignKey}
use Rattle.sqlite_schema.specs.declared.schema.Index.{Index}
use Rattle.sqlite_schema.specs.declared.schema.Keys.{Keys}
use Rattle.sqlite_sql.specs.Catalog.{entry_of}
use Rattle.sqlite_sql.specs.Ops.{fits_i64}
use Rattle.sqlite_trees.specs.View.{IsStorable, IsStorableRow}
use Rattle.sqlite_value.specs.Order.{bytes, number}
use Rattle.desk_packing.specs.Lines.{Line}
use Rattle.row_store.specs.Refusals.{IsHuge, IsHugeIn, IsHugeOn}
use Rattle.row_store.proofs.Lines.{row_of}
use Rattle.row_store.proofs.Texts.{desk_table}

-- an integer is no NaN, and what is no number is none
number_is : (n : ℤ) → NotNan (number (Int n))
unfolding lib.Ieee.is_nan
number_is (pos n) = tt
number_is (negsuc n) = tt

no_number : NotNan float_zero
unfolding lib.Ieee.is_nan
no_number = tt

module _ (id : ℤ) (l : Line) where
  -- the row can be stored, unless its body is huge
  storable : 90 + length l.body ≤ 10 ^ 9 → IsStorableRow (table_reals (desk_table 0)) (row_of id l)
  storable short = (
    record {
      typed = λ c bit. absurd (let none = sym (bit_at-zero c) ∙ bit in cc);
      columns = (omega arith, omega arith);
      numbers =
          All-from_recursion (λ v. NotNan (number v)) (row_of id l) (
            number_is id,
            (number_is (pos l.kind), (number_is (pos l.owner), (number_is (pos l.place), (no_number, tt)))),
          );
      short = omega (arith, short);
    },
    omega arith,
  )

  -- a column of the row is no NaN
  column_number : (place : ℕ) → NotNan (number (column (row_of id l) place))
  column_number zero = number_is id
  column_number (suc zero) = number_is (pos l.kind)
  column_number (suc (suc zero)) = number_is (pos l.owner)
  column_number (suc (suc (suc zero))) = number_is (pos l.place)
  column_number (suc (suc (suc (suc place)))) = last_number place
    where
      last_number : (at : ℕ) → NotNan (number (column (Blob l.body ∷ []) at))
      last_number zero = no_number
      last_number (suc at) = no_number

  -- nor is one of its entry in an index
  entry_numbers : (columns : List ℕ) → AllByRecursion (λ v. NotNan (number v)) (entry_of columns (row_of id l))
  entry_numbers [] = (number_is id, tt)
  entry_numbers (place ∷ columns) = (column_number place, entry_numbers columns)

  -- its columns have the bytes of the line's
  column_bytes : (place : ℕ) → bytes (column (row_of id l) place) ≡ bytes (column (row_of (pos 0) l) place)
  column_bytes zero = refl
  column_bytes (suc place) = refl

  -- what an entry adds to a size
  abbrev grown : ℕ → List ℕ → Row → ℕ
  grown from columns of = fold (λ size v. size + (18 + length (bytes v))) from (entry_of columns of)

  entry_grown : (columns : List ℕ) (from : ℕ) → grown from columns (row_of id l) ≡ grown from columns (row_of (pos 0) l)
  entry_grown [] from = refl
  entry_grown (place ∷ columns) from =
      entry_grown columns (from + (18 + length (bytes (column (row_of id l) place))))
      ∙ ap (λ (b : List ℕ). grown (from + (18 + length b)) columns (row_of (pos 0) l)) (column_bytes place)

  -- so its entry has the size of the line's
  entry_size : (columns : List ℕ)
      → sum_by (λ v. 18 + length (bytes v)) (entry_of columns (row_of id l))
      ≡ sum_by (λ v. 18 + length (bytes v)) (entry_of columns (row_of (pos 0) l))
  entry_size columns = entry_grown columns 0

  -- no column of an index is REAL
  no_reals : (columns : List ℕ) → index_reals (table_reals (desk_table 0)) columns ≡ 0
  no_reals [] = refl
  no_reals (place ∷ columns) = rw (bit_at-zero place, no_reals columns) refl

  -- what is not small is huge
  huge_in : (index : Index) → ((IsHugeIn index l → ⊥) → ⊥) → IsHugeIn index l
  huge_in index big = elim (cases_lt 2000 (length index.columns)) [
    | inl many ↦ inl many
    | inr few ↦
        elim
        (cases_lt (10 ^ 9)
        (sum_by (λ v. 18 + length (bytes v)) (entry_of index.columns (row_of (pos 0) l))))
        [ inl long ↦ inr long | inr short ↦ absurd (big (λ huge. not_both few short huge)) ]
  ]
    where
      not_both : length index.columns ≤ 2000
          → sum_by (λ v. 18 + length (bytes v)) (entry_of index.columns (row_of (pos 0) l)) ≤ 10 ^ 9
          → IsHugeIn index l → ⊥
      not_both few short (inl many) = omega (arith, few, many)
      not_both few short (inr long) = omega (arith, short, long)

  -- its entry in an index can be stored, unless it is huge there
  entry_storable : (index : Index) → (IsHugeIn index l → ⊥)
      → IsStorable (index_reals (table_reals (desk_table 0)) index.columns) (entry_of index.columns (row_of id l))
  entry_storable index small = record {
    typed = λ c bit. absurd
        (let none = sym (bit_at-zero c) ∙ subst (λ bits. bit_at bits c ≡ 1) (no_reals index.columns) bit in cc);
    columns = (omega (arith, wide), omega (arith, wide, few));
    numbers = All-from_recursion (λ v. NotNan (number v)) _ (entry_numbers index.columns);
    short = rw (entry_size index.columns) short;
  }
    where
      wide : length (entry_of index.columns (row_of id l)) ≡ length index.columns + 1
      wide = length-append (map (column (row_of id l)) index.columns) (Int id ∷ []) ∙ ap (λ n. n + 1)
          (length-map index.columns (column (row_of id l)))

      few : length index.columns ≤ 2000
      few = elim (cases_lt 2000 (length index.columns)) [ inl many ↦ absurd (small (inl many)) | inr below ↦ below ]

      short : sum_by (λ v. 18 + length (bytes v)) (entry_of index.columns (row_of (pos 0) l)) ≤ 10 ^ 9
      short =
          elim
          (cases_lt (10 ^ 9)
          (sum_by (λ v. 18 + length (bytes v)) (entry_of index.columns (row_of (pos 0) l))))
          [ inl big ↦ absurd (small (inr big)) | inr below ↦ below ]

  module _ (schema : Schema) (tree : ℕ) where
    -- what cannot be stored is huge
    oversized : IsOversized schema (desk_table tree) (row_of id l) → IsHuge l ⊎ IsHugeOn tree schema.indexes l
    oversized (inl big) = elim (cases_lt (10 ^ 9) (90 + length l.body)) [
      | inl huge ↦ inl huge
      | inr short ↦ absurd (big (storable short))
    ]
    oversized (inr (i, has, table, big)) = inr (i, has, table, huge_in i (λ small. big (entry_storable i small)))

    -- the edit that puts the row, in place of those of some numbers
    module _ (keys : Keys) (db : Trees) (gone : List ℤ) where
      abbrev pub edit : Edit
      edit = record { table = desk_table tree; gone = gone; news = row_of id l ∷ [] }

      module _ (fresh : are_fresh (left_by db edit) (row_of id l ∷ []) ≡ true) (fits : fits_i64 id ≡ true)
          (unique : Keeps Unique schema (with_tree db tree (edited db edit)))
          (referred : is_referred schema keys edit ≡ true)
          (none : works schema keys 0 tree (taken_by db edit) (row_of id l ∷ []) ≡ []) where
        -- no rule refuses it
        not_refused : (why : Refusal) → IsRefused schema keys db edit why → ⊥
        not_refused (Violates Datatype) h = true≢false h
        not_refused (Violates NotNull) h = true≢false h
        not_refused (Violates Check) h = true≢false h
        not_refused (Violates PrimaryKey) h = true≢false (sym fresh ∙ h)
        not_refused (Violates Unique) h = h unique
        not_refused (Violates ForeignKey) h = h
        not_refused Mismatch h = true≢false h
        not_refused NoRowid h = true≢false (sym (rw fits refl) ∙ h)
        not_refused BadReference h = true≢false (sym referred ∙ h)
        not_refused TooDeep h = h

        -- nothing is set off by it
        settled : (n : ℕ) (next : Trees) (why : Option Refusal) → Leads schema keys n next [] (Err why) → ⊥
        settled zero next why h = let e = h.1 in cc
        settled (suc n) next why (below, work, is, acts) = omega (arith, ap length is, length-append below (work ∷ []))

        -- so it is refused only for its size
        pub edit_refused : (why : Option Refusal) → Writes schema keys db edit (Err why)
            → IsHuge l ⊎ IsHugeOn tree schema.indexes l
        edit_refused why (inl (reason, refused, is)) = absurd (not_refused reason refused)
        edit_refused why (inr (inl (big, inl is, over, so))) = oversized (rw is at over)
        edit_refused why (inr (inl (big, inr no_row, over, so))) = absurd no_row
        edit_refused why (inr (inr (next, applied, settles))) =
            absurd (settled settles.0 next why (rw none at settles.1))
