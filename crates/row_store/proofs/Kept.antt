-- What holds still where a line is put: no key comes twice, and each foreign key has its parent.
use Rattle.std.proofs.Common.{◌≡◌, ◌≢◌, ◌⊎◌, inl, inr, ℕ, ℤ, List, [], ◌∷◌, true, false, not, ◌&&◌, Option}
use Rattle.std.proofs.Common.{Some, None, refl, sym, ap, subst, subst₂, ◌∙◌, true≢false, if◌then◌else◌}
use Rattle.std.specs.List.{list_all, list_any}
use Rattle.std.specs.Ordering.{is_ne}
use Rattle.std.proofs.lemmas.Cmp.{tied_itself}
use Rattle.std.proofs.lemmas.Bool.{and_parts, and_from, false_from_ne_true, not_from_false}
use Rattle.std.proofs.lemmas.Bool.{or_cases, or_left, or_right}
use Rattle.std.proofs.lemmas.Bool.Decides.{Decides-eqb}
use Rattle.sqlite.specs.Order.{Row}
use Rattle.sqlite.specs.Table.{Table}
use Rattle.sqlite.specs.Tree.{Trees, put_row, rowid, with_tree}
use Rattle.sqlite.specs.declared.types.Value.TheVariants.{Int}
use Rattle.sqlite_rules.proofs.KeyLemmas.{agree_back, agree_chain}
use Rattle.sqlite_rules.proofs.ListLemmas.{all_has, some_from, some_has, test_from, test_has}
use Rattle.sqlite_rules.proofs.RuleLemmas.{keeps_at, keeps_from, parent_is_table, refers_at, refers_from}
use Rattle.sqlite_rules.proofs.TableLemmas.{put_has}
use Rattle.sqlite_rules.specs.Lists.{Has}
use Rattle.sqlite_schema.specs.Rules.{ParentKey, Refers, has_null, has_parent, is_among, is_held, parent_key, Keeps}
use Rattle.sqlite_schema.specs.Rules.{agree, clashes, differ, guards, passes}
use Rattle.sqlite_schema.specs.declared.schema.Among.TheVariants as among
use Rattle.sqlite_schema.specs.declared.schema.Reference.{Reference}
use Rattle.sqlite_schema.specs.declared.schema.Constraint.TheVariants.{Unique}
use Rattle.sqlite_schema.specs.declared.schema.Index.{Index}
use Rattle.sqlite_value.specs.declared.keys.Order.{Order}
use Rattle.sqlite.specs.Schema.{Schema}
use Rattle.sqlite_value.specs.Keys.{plain}
use Rattle.sqlite_value.specs.Order.{value_cmp}
use Rattle.sqlite_value.proofs.OrderLemmas.{value_cmp_total}
use Rattle.sqlite_sql.specs.Ops.{binary}
use Rattle.desk_packing.specs.Lines.{Line}
use Rattle.row_store.specs.Stored.{Holds, OthersStay}
use Rattle.row_store.proofs.Lines.{has_key, row_of, true_of}
use Rattle.row_store.proofs.Found.{guards_own}
use Rattle.row_store.proofs.Keyed.{IsKeyed, KeysStay, agree_any, keyed_of, keyed_row}
use Rattle.row_store.proofs.Texts.{IsDesk, IsKeyBeside, desk_index, desk_key, desk_table, is_here}

-- a number does not differ from itself
same_differs : (id : ℤ) → differ (Int id) (Int id) ≡ true → ⊥
unfolding binary
same_differs id h =
    let level : is_ne (value_cmp (Int id) (Int id)) ≡ false = ap is_ne (tied_itself value_cmp_total (Int id)) in
    true≢false (sym h ∙ true_of (is_ne (value_cmp (Int id) (Int id))) ∙ level)

module _ (schema : Schema) (tree : ℕ) (desk : IsDesk schema tree) (db : Trees) (lines : List Line)
    (holds : Holds (db tree) lines) (keeps : Keeps Unique schema db) where
  -- no two stored rows have one key
  pub stored_once : (x y : Row) → Has (db tree) x → Has (db tree) y
      → agree plain (1 ∷ 2 ∷ 3 ∷ []) y (1 ∷ 2 ∷ 3 ∷ []) x ≡ true → differ (rowid y) (rowid x) ≡ true → ⊥
  stored_once x y has_x has_y same apart_ids =
      let own =
      test_has (λ i. not (guards i (desk_table tree) && clashes i.order i.columns (db tree) x)) schema.indexes
      (desk_index tree desk.own) (keeps_at Unique schema db (desk_table tree) x keeps desk.stands has_x) desk.owns in
      let first : not (clashes plain (1 ∷ 2 ∷ 3 ∷ []) (db tree) x) ≡ true = rw (guards_own tree desk.own) at own in
      let clash =
      some_from (λ other. agree plain (1 ∷ 2 ∷ 3 ∷ []) other (1 ∷ 2 ∷ 3 ∷ []) x && differ (rowid other) (rowid x))
      (db tree) y has_y (and_from _ _ same apart_ids) in
      true≢false (sym first ∙ ap not clash)

  module _ (id : ℤ) (l : Line) (left : List Row) (stays : (x : Row) → Has left x → Has (db tree) x)
      (none : (x : Row) → Has left x → has_key l x ≡ true → ⊥) where
    -- the rows with the line's row, and the trees with them
    abbrev news : List Row
    news = put_row (row_of id l) left

    -- no two rows have one key then
    twice : (x y : Row) → Has news x → Has news y → agree plain (1 ∷ 2 ∷ 3 ∷ []) y (1 ∷ 2 ∷ 3 ∷ []) x ≡ true
        → differ (rowid y) (rowid x) ≡ true → ⊥
    twice x y there here same other = go (put_has (row_of id l) left x there) (put_has (row_of id l) left y here)
      where
        go : (x ≡ row_of id l) ⊎ Has left x → (y ≡ row_of id l) ⊎ Has left y → ⊥
        go (inl is) (inl also) =
            same_differs id (subst₂ (λ a b. differ (rowid a) (rowid b) ≡ true) also is other)
        go (inl is) (inr kept) =
            none y kept (subst (λ a. agree plain (1 ∷ 2 ∷ 3 ∷ []) y (1 ∷ 2 ∷ 3 ∷ []) a ≡ true) is same)
        go (inr stored) (inl is) =
            none x stored (agree_back plain (1 ∷ 2 ∷ 3 ∷ []) (1 ∷ 2 ∷ 3 ∷ []) (row_of id l) x
            (subst (λ b. agree plain (1 ∷ 2 ∷ 3 ∷ []) b (1 ∷ 2 ∷ 3 ∷ []) x ≡ true) is same))
        go (inr stored) (inr kept) = stored_once x y (stays x stored) (stays y kept) same other

    -- each of them has integers for a key
    all_keyed : (x : Row) → Has news x → IsKeyed x
    all_keyed x there = go (put_has (row_of id l) left x there)
      where
        go : (x ≡ row_of id l) ⊎ Has left x → IsKeyed x
        go (inl is) = subst IsKeyed (sym is) (keyed_row id l)
        go (inr kept) = keyed_of (db tree) lines holds x (stays x kept)

    -- so none clashes, whatever the order of the index
    not_twice : (o : Order) (x : Row) → Has news x → clashes o (1 ∷ 2 ∷ 3 ∷ []) news x ≡ true → ⊥
    not_twice o x there clash =
        let (other, other_there, clashing) =
        some_has (λ y. agree o (1 ∷ 2 ∷ 3 ∷ []) y (1 ∷ 2 ∷ 3 ∷ []) x && differ (rowid y) (rowid x)) news clash in
        let (same, apart) =
        and_parts (agree o (1 ∷ 2 ∷ 3 ∷ []) other (1 ∷ 2 ∷ 3 ∷ []) x) (differ (rowid other) (rowid x)) clashing in
        twice x other there other_there
        (sym (agree_any o other x (all_keyed other other_there) (all_keyed x there)) ∙ same) apart

    abbrev next : Trees
    next = with_tree db tree news

    next_own : next tree ≡ news
    next_own = rw ((Decides-eqb tree tree).1 refl) refl

    -- a row of the table passes each index
    passes_own : (x : Row) → Has news x → (i : Index) → Has schema.indexes i
        → not (guards i (desk_table tree) && clashes i.order i.columns news x) ≡ true
    passes_own x there i has =
        not_from_false _
        (false_from_ne_true _
        (λ both.
        let parts = and_parts (guards i (desk_table tree)) (clashes i.order i.columns news x) both in
        not_twice i.order x there
        (subst (λ at. clashes i.order at news x ≡ true) (desk.sole i has parts.0) parts.1)))

    -- and no key of any table comes twice
    pub unique_with : Keeps Unique schema next
    unique_with = keeps_from Unique schema next each
      where
        own : (x : Row) → Has (next tree) x → passes Unique schema next (desk_table tree) x ≡ true
        own x there =
            rw next_own
            (test_from (λ i. not (guards i (desk_table tree) && clashes i.order i.columns news x)) schema.indexes
            (passes_own x (subst (λ rows. Has rows x) next_own there)))

        each : (t : Table) (x : Row) → Has schema.tables t → Has (next t.tree) x → passes Unique schema next t x ≡ true
        each t x known there = elim (desk.apart t known) [
          | inl is ↦
              subst (λ s. passes Unique schema next s x ≡ true) (sym is)
              (own x (subst (λ (s : Table). Has (next s.tree) x) is there))
          | inr other ↦
              let same : next t.tree ≡ db t.tree = ap (λ b. if b then news else db t.tree) other in
              subst (λ rows. list_all (λ i. not (guards i t && clashes i.order i.columns rows x)) schema.indexes ≡ true)
              (sym same)
              (keeps_at Unique schema db t x keeps known (subst (λ rows. Has rows x) same there))
        ]

-- ---- each foreign key has its parent still

module _ (schema : Schema) (tree : ℕ) (desk : IsDesk schema tree) (old new : Trees)
    (stay : OthersStay tree schema old new) (keys : KeysStay (old tree) (new tree)) where
  -- each other table has its rows still
  same_tree : (t : Table) → Has schema.tables t → t.tree ≢ tree → new t.tree ≡ old t.tree
  same_tree t known other =
      all_has (λ (s : Table). s.tree ≢ tree → new s.tree ≡ old s.tree) schema.tables t stay.tables known other

  -- a parent in another table is where it was
  held_elsewhere : (ref : Reference) (x : Row) (key : Option ParentKey) → parent_key schema.tables ref ≡ key
      → is_here tree key ≡ false → is_held new ref.columns x key ≡ is_held old ref.columns x key
  held_elsewhere ref x None is there = refl
  held_elsewhere ref x (Some (at, places, order)) is there =
      let (parent, listed, parent_is) = parent_is_table schema.tables ref (at, places, order) is in
      let other =
      λ (none : parent.tree ≡ tree). true≢false (sym ((Decides-eqb at tree).1 (sym parent_is ∙ none)) ∙ there) in
      let same : new at ≡ old at = subst (λ at. new at ≡ old at) parent_is (same_tree parent listed other) in
      ap (λ rows. list_any (λ one. agree order places one ref.columns x) rows) same

  -- one in the table has its key still
  held_here : (ref : Reference) (x : Row) → is_held old ref.columns x (Some (desk_key tree)) ≡ true
      → is_held new ref.columns x (Some (desk_key tree)) ≡ true
  held_here ref x held =
      let (parent, stored, alike) =
      some_has (λ one. agree plain (1 ∷ 2 ∷ 3 ∷ []) one ref.columns x) (old tree) held in
      let (still, there, same) = keys parent stored in
      some_from (λ one. agree plain (1 ∷ 2 ∷ 3 ∷ []) one ref.columns x) (new tree) still there
      (agree_chain plain (1 ∷ 2 ∷ 3 ∷ []) (1 ∷ 2 ∷ 3 ∷ []) ref.columns still parent x
      (agree_back plain (1 ∷ 2 ∷ 3 ∷ []) (1 ∷ 2 ∷ 3 ∷ []) parent still same) alike)

  -- so a parent is there still
  held_still : (ref : Reference) (x : Row) → IsKeyBeside tree (parent_key schema.tables ref)
      → is_held old ref.columns x (parent_key schema.tables ref) ≡ true
      → is_held new ref.columns x (parent_key schema.tables ref) ≡ true
  held_still ref x (inl free) held = held_elsewhere ref x (parent_key schema.tables ref) refl free ∙ held
  held_still ref x (inr is) held =
      subst (λ key. is_held new ref.columns x key ≡ true) (sym is)
      (held_here ref x (subst (λ key. is_held old ref.columns x key ≡ true) is held))

  -- so each foreign key has its parent
  pub refers_still : Refers among.All schema old → Refers among.All schema new
  refers_still refers = refers_from among.All schema new each
    where
      each : (t : Table) (ref : Reference) (x : Row) → Has schema.tables t → Has t.references ref
          → is_among among.All ref ≡ true → Has (new t.tree) x → has_parent schema.tables new x ref ≡ true
      each t ref x known named due there = elim (desk.apart t known) [
        | inl is ↦ absurd (subst (λ (s : Table). Has s.references ref) is named)
        | inr elsewhere ↦
            let other = λ (none : t.tree ≡ tree). true≢false (sym ((Decides-eqb t.tree tree).1 none) ∙ elsewhere) in
            let same = same_tree t known other in
            let had =
            refers_at among.All schema old t x ref refers known (subst (λ rows. Has rows x) same there) named refl in
            elim (or_cases (has_null ref.columns x) (is_held old ref.columns x (parent_key schema.tables ref)) had) [
              | inl null ↦ or_left _ (is_held new ref.columns x (parent_key schema.tables ref)) null
              | inr held ↦
                  or_right (has_null ref.columns x) _ (held_still ref x (desk.referred t ref known named) held)
            ]
      ]
