use Rattle.std.proofs.Common.{◌≡◌, ◌∙◌, ℕ, ◌+◌, ◌-◌, List, Option, Some, None, ap, arith, sym}
use Rattle.std.proofs.Common.{drop, length, length-drop, position, take}
use Rattle.std.specs.Prelude.{option_map}
use Rattle.std.specs.Str.{bytes_eq}
use Rattle.std.proofs.lemmas.List.{take_all}
use Rattle.desk_words.specs.declared.refusal.Refusal.TheVariants.{NoClerk}
use Rattle.desk_words.specs.declared.rows.clerk.ClerkRow.{ClerkRow}
use Rattle.machine_core.specs.Checked.{Checked, run, some_or}
use Rattle.machine_core.specs.Machine.{clerk_of}
use Rattle.session_machine.proofs.clerk.clerk_of.Goals as goal

-- the place of a clerk, by what is found after the steward
clerk_of-found : (clerks rows : List ClerkRow) (name text : List ℕ) (found : Option ℕ) → rows ≡ clerks → text ≡ name
    → found ≡ position (λ row. bytes_eq row.name text) (take (length rows - 1) (drop 1 rows))
    → clerk_of clerks name ≡ some_or (option_map (λ place. place + 1) found) NoClerk
clerk_of-found clerks rows name text found are is finds =
    let place_in : List ClerkRow → List ℕ → Option ℕ = λ list word. position (λ row. bytes_eq row.name word) list in
    let told : Option ℕ → Checked ℕ = λ one. some_or (option_map (λ place. place + 1) one) NoClerk in
    let rest = take_all (length rows - 1) (drop 1 rows) (omega (arith, length-drop 1 rows)) in
    ap (λ list. told (place_in (drop 1 list) name)) (sym are)
    ∙ ap (λ word. told (place_in (drop 1 rows) word)) (sym is)
    ∙ ap (λ list. told (place_in list text)) (sym rest) ∙ ap told (sym finds)

pub returns-in-Some-clause-finds : goal.returns-in-Some-clause-finds
returns-in-Some-clause-finds c = ap run
    (clerk_of-found c.args.tables.now.clerks.items c.as_slice.result.now c.args.name.now
    c.as_str.result.now (Some c.in-Some.place) c.as_slice.ensures c.as_str.ensures.text c.in-Some.ensures.place)

pub returns-in-None-clause-finds : goal.returns-in-None-clause-finds
returns-in-None-clause-finds c = ap run
    (clerk_of-found c.args.tables.now.clerks.items c.as_slice.result.now c.args.name.now
    c.as_str.result.now None c.as_slice.ensures c.as_str.ensures.text c.in-None.ensures.place)
