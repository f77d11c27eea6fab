-- The bytes of an input determine what they are answered with.
use Rattle.std.proofs.Common.{◌≡◌, ◌∙◌, ℕ, List, Option, Some, sym, ap, refl, arith}
use Rattle.fix_engine.proofs.Once.{IsAnswer-unique}
use Rattle.case_json.specs.declared.case.Case.{Case}
use Rattle.once_run.specs.declared.reply.InputRefusal.{InputRefusal}
use Rattle.once_run.specs.declared.reply.InputRefusal.TheVariants.{TooLong, NotJson, NotACase}
use Rattle.case_json.specs.Answer.{IsAnswer}
use Rattle.case_json.specs.Cases.{IsCaseIn}
use Rattle.json_parts.specs.Parts.{json_of}
use Rattle.once_run.specs.Once.{IsAnswered, IsRefusalOf, IsRefused, refusal_line}

-- what is found is one value
one_value : {A : Type 0} (found : Option A) (value other : A) → found ≡ Some value → found ≡ Some other → value ≡ other
one_value found value other is also = cc

-- a text is one case
pub one_case : (bytes : List ℕ) (case other : Case) → IsCaseIn bytes case → IsCaseIn bytes other → case ≡ other
one_case bytes case other (value, is, read) (again, also, found) =
    let same = one_value (json_of bytes) value again is also in
    let first = read.parts in
    let second = found.parts in
    cc

-- a text that is a case is refused for no reason
pub no_refusal : (bytes : List ℕ) (text : List ℕ) → IsAnswered bytes text → (refusal : InputRefusal)
    → ¬ IsRefusalOf bytes refusal
no_refusal bytes text (few, (case, is, answer)) TooLong long = omega arith
no_refusal bytes text (few, (case, (value, json, read), answer)) NotJson (short, none) = cc
no_refusal bytes text (few, (case, (value, json, read), answer)) NotACase (short, (again, also, none)) =
    let same = one_value (json_of bytes) value again json also in
    none case (rw same at read)

-- a case has one answer
one_answer : (case : Case) (text other : List ℕ) → IsAnswer case text → IsAnswer case other → text ≡ other
one_answer case text other one two =
    let same = IsAnswer-unique case.kit case.state one.verdict two.verdict one.first one.second two.first two.second
    one.decided two.decided in
    one.shows ∙ rw (same.0, same.1, same.2) (sym two.shows)

-- and so has a text that is a case
pub one_text : (bytes text other : List ℕ) → IsAnswered bytes text → IsAnswered bytes other → text ≡ other
one_text bytes text other (few, (case, is, answer)) (short, (again, also, found)) =
    let same = one_case bytes case again is also in
    one_answer again text other (rw same at answer) found

-- a text is refused for one reason
same_refusal : (bytes : List ℕ) (refusal other : InputRefusal) → IsRefusalOf bytes refusal → IsRefusalOf bytes other
    → refusal ≡ other
same_refusal bytes TooLong TooLong long also = refl
same_refusal bytes TooLong NotJson long (short, none) = absurd (omega arith)
same_refusal bytes TooLong NotACase long (short, (value, json, none)) = absurd (omega arith)
same_refusal bytes NotJson TooLong (short, none) long = absurd (omega arith)
same_refusal bytes NotJson NotJson (short, none) also = refl
same_refusal bytes NotJson NotACase (short, none) (few, (value, json, unread)) = absurd cc
same_refusal bytes NotACase TooLong (short, (value, json, none)) long = absurd (omega arith)
same_refusal bytes NotACase NotJson (short, (value, json, unread)) (few, none) = absurd cc
same_refusal bytes NotACase NotACase (short, (value, json, none)) also = refl

-- a text is refused with one line
pub one_line : (bytes line other : List ℕ) → IsRefused bytes line → IsRefused bytes other → line ≡ other
one_line bytes line other (refusal, why, is) (again, also, tells) =
    is ∙ ap refusal_line (same_refusal bytes refusal again why also) ∙ sym tells
