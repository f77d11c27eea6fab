-- The cells of the master that a sheet reads as, by its outline.
use Rattle.std.proofs.Common.{◌≡◌, ◌≢◌, ◌∙◌, ℕ, ◌*◌, ◌≤◌, List, length, ap, subst, arith, refl}
use Rattle.std.specs.Prelude.{Result, Ok, Err, IsErrAnd}
use Rattle.std.proofs.Math.Nat.{mul-le-mul}
use Rattle.desk_valid.specs.Tallies.{cell_count}
use Rattle.master_rows.specs.declared.error.SheetFault.{SheetFault}
use Rattle.master_rows.specs.declared.error.SheetFault.TheVariants as sheet_fault
use Rattle.master_rows.specs.declared.master.Master.{Master}
use Rattle.master_rows.specs.declared.outline.Outline.{Outline}
use Rattle.master_rows.specs.Outline.{read_outline}
use Rattle.master_rows.specs.Sheet.{read_sheet}
use Rattle.master_rows.proofs.Masters.{IsMaster-read_sheet}
use Rattle.master_rows.proofs.Outlines.{outlined-fault, outlined-master}
use Rattle.machine_core.specs.Checked.{Checked, IsFound, Outcome, and_then, done, run, told, value_or, ◌>>=◌}
use Rattle.machine_core.specs.Faults.{sheet_refusal}
use Rattle.machine_core.specs.Outcomes.{EndsWith, Finds, IfRefused}
use Rattle.machine_core.specs.declared.stop.Stop.{Stop}
use Rattle.machine_core.specs.declared.stop.Stop.TheVariants.{Refused, NoMemory}

-- how many cells what is read has; refused where nothing is
abbrev pub cells_read : Result Master SheetFault → Checked ℕ
cells_read read = value_or read sheet_refusal >>= (λ master. done (cell_count master))

-- an outline has as many cells as the master
pub cells-outline : (sheet : List ℕ) (outline : Outline) → read_outline sheet ≡ Ok outline
    → IsFound (cells_read (read_sheet sheet)) (length outline.columns * outline.rows)
cells-outline sheet outline is =
    let outlined = outlined-master (read_sheet sheet) outline is in
    ap (λ one. run (cells_read one)) outlined.1
    ∙ ap (λ (one : Outline). told (Ok (length one.columns * one.rows))) outlined.2

-- at most 48 columns over 20,000 rows
pub outline-few : (sheet : List ℕ) (outline : Outline) → read_outline sheet ≡ Ok outline
    → length outline.columns * outline.rows ≤ 960000
outline-few sheet outline is =
    let told = outlined-master (read_sheet sheet) outline is in
    let good = IsMaster-read_sheet _ sheet told.0 told.1 in
    let few : length told.0.columns * length told.0.grid.rows ≤ 960000 =
    omega (arith, mul-le-mul good.narrow good.few) in
    subst (λ (one : Outline). length one.columns * one.rows ≤ 960000) told.2 few

-- and its faults
pub cells-fault : (sheet : List ℕ) (fault : SheetFault) (stop : Stop)
    → IfRefused stop (λ refusal. (refusal ≡ sheet_refusal fault) × (fault ≢ sheet_fault.NoMemory))
    → (fault ≢ sheet_fault.NoMemory → read_outline sheet ≡ Err fault)
    → Finds {A = ℕ} (Err stop) (cells_read (read_sheet sheet))
cells-fault sheet fault (Refused refusal) says is =
    let read = outlined-fault (read_sheet sheet) fault (is says.1) in
    rw (read, says.0) refl
cells-fault sheet fault NoMemory says is = tt

-- where the cells are found the master is
pub cells-found : (read : Result Master SheetFault) (count : ℕ) → IsFound (cells_read read) count
    → (master : Master) × (read ≡ Ok master) × (cell_count master ≡ count)
cells-found (Ok master) count is = (master, refl, cc)
cells-found (Err fault) count is = absurd (cc)

-- and where they are not, what comes of the master stops too
pub cells-stopped : {B : Type 0} (read : Result Master SheetFault) (next : Master → Outcome B) (stop : Stop)
    (result : Result B Stop) → IsErrAnd result (λ one. one ≡ stop) → Finds {A = ℕ} (Err stop) (cells_read read)
    → EndsWith result (and_then (run (value_or read sheet_refusal)) next)
cells-stopped read next stop (Ok value) is finds = absurd is
cells-stopped (Ok master) next (Refused refusal) (Err other) is finds = absurd (cc)
cells-stopped (Err fault) next (Refused refusal) (Err other) is finds = rw is (cc)
cells-stopped read next NoMemory (Err other) is finds = rw is tt
