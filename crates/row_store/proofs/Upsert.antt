-- The parts of the upsert.
use Rattle.std.proofs.Common.{◌≡◌, ◌⊎◌, inl, inr, ℕ, ℤ, List, [], ◌∷◌, None, Some, Ok, Err, Result, Option, Bool, true}
use Rattle.std.proofs.Common.{false, cond, refl, ap, subst}
use Rattle.sqlite.specs.declared.types.Value.{Value}
use Rattle.sqlite.specs.declared.types.Value.TheVariants.{Null, Int, Blob}
use Rattle.sqlite.specs.Order.{Row}
use Rattle.sqlite.specs.Ops.{unary}
use Rattle.sqlite.specs.Cast.{cast, cast_row}
use Rattle.sqlite.specs.Kind.TheVariants.{Integer}
use Rattle.sqlite.specs.Rows.{Written, Task, TriesEach, Tries, Upserts, nothing}
use Rattle.sqlite.specs.Schema.{Schema}
use Rattle.sqlite.specs.Tree.{Trees}
use Rattle.sqlite_rules.specs.declared.error.Rowids.TheVariants.{Chosen}
use Rattle.sqlite_rules.specs.Edit.{with_rowid}
use Rattle.sqlite_schema.specs.declared.command.Conflict.TheVariants.{Abort}
use Rattle.sqlite_schema.specs.declared.schema.Keys.{Keys}
use Rattle.row_store.proofs.Texts.{clauses, desk_table}

-- a part that gave a value did not stop on the way
pub went : {B E R : Type 0} {b : B} {Stops : E → Type 0} → ((stop : E) × Stops stop × (Ok b ≡ Err stop)) ⊎ R → R
went (inl (stop, stops, gives)) = absurd cc
went (inr on) = on

pub same_value : {B E : Type 0} {a b : B} → ◌≡◌ {A = Result B E} (Ok a) (Ok b) → a ≡ b
same_value e = cc

either : (b : Bool) (x : Value) → cond b x x ≡ x
either true x = refl
either false x = refl

cast_null : cast Integer Null ≡ Null
unfolding unary
cast_null = either _ Null

pub cast_int : (n : ℤ) → cast Integer (Int n) ≡ Int n
unfolding unary
cast_int n = either _ (Int n)

pub cast_source : (tree : ℕ) (k o p : ℤ) (b : List ℕ)
    → cast_row (desk_table tree) (Null ∷ Int k ∷ Int o ∷ Int p ∷ Blob b ∷ [])
    ≡ Null ∷ Int k ∷ Int o ∷ Int p ∷ Blob b ∷ []
cast_source tree k o p b = rw (cast_null, cast_int k, cast_int o, cast_int p) refl

-- the task of the statement
abbrev pub desk_task : Schema → ℕ → Option ℕ → Keys → Row → Task
desk_task schema tree limit keys params =
    record { limit = limit; keys = keys; schema = schema; table = desk_table tree; params = params }

module _ (schema : Schema) (tree : ℕ) (limit : Option ℕ) (keys : Keys) (params : Row) (db : Trees) where
  -- one source row is one try
  each : (source : Row) (top : ℤ) (done : Written × ℤ)
      → TriesEach (desk_task schema tree limit keys params) Abort (clauses tree) (source ∷ []) top (nothing db)
      (Ok done)
      → (one : Written)
      × Tries (desk_task schema tree limit keys params) Abort (clauses tree)
      (with_rowid Chosen (db tree) (cast_row (desk_table tree) source)) db (Ok one) × (done.0.trees ≡ one.trees)
  each source top done h =
      let (one, tried, gives) = went h in
      (one, tried, ap (λ (d : Written × ℤ). d.0.trees) (same_value gives))

  pub from_rows : (source : Row) (rows : List Row) (top : ℤ) (done : Written × ℤ) → rows ≡ source ∷ []
      → TriesEach (desk_task schema tree limit keys params) Abort (clauses tree) rows top (nothing db) (Ok done)
      → (one : Written)
      × Tries (desk_task schema tree limit keys params) Abort (clauses tree)
      (with_rowid Chosen (db tree) (cast_row (desk_table tree) source)) db (Ok one) × (done.0.trees ≡ one.trees)
  from_rows source rows top done is h =
      each source top done
      (subst (λ rs. TriesEach (desk_task schema tree limit keys params) Abort (clauses tree) rs top (nothing db)
      (Ok done)) is h)

  pub upserts : (new : Row) (one : Written)
      → Tries (desk_task schema tree limit keys params) Abort (clauses tree) new db (Ok one)
      → Upserts (desk_task schema tree limit keys params) Abort new db (clauses tree) (Ok one)
  upserts new one (inl h) = absurd (let e = h.1 in cc)
  upserts new one (inr (None, judged, h)) = h
  upserts new one (inr (Some why, judged, h)) = absurd (let e = h in cc)
