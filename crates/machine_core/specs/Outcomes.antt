-- What a part of the machine answers, by what is checked. Want of memory is free.
use Rattle.std.specs.Prelude.{◌≡◌, ◌≢◌, Result, Ok, Err, ⊤}
use Rattle.std.specs.Borrow.{Bor}
use Rattle.desk_words.specs.declared.refusal.Refusal.{Refusal as RefusalOf}
use Rattle.machine_core.specs.declared.stop.Stop.{Stop}
use Rattle.machine_core.specs.declared.stop.Stop.TheVariants.{Refused, NoMemory}
use Rattle.machine_core.specs.Checked.{Checked, ComesTo, Outcome, run, told}

-- the call ends with what comes of tests that ask nothing; or it finds no memory
abbrev pub EndsWith : {A : Type 0} → Result A Stop → Outcome A → Type 0
EndsWith (Ok found) outcome = outcome ≡ told (Ok found)
EndsWith (Err (Refused refusal)) outcome = outcome ≡ told (Err refusal)
EndsWith (Err NoMemory) outcome = ⊤

-- the call ends with what comes of tests, by what is answered to their questions; or it finds no memory
abbrev pub EndsBy : {A : Type 0} → Result A Stop → Outcome A → Type 0
EndsBy (Ok found) outcome = ComesTo outcome (Ok found)
EndsBy (Err (Refused refusal)) outcome = ComesTo outcome (Err refusal)
EndsBy (Err NoMemory) outcome = ⊤

-- what is lent
abbrev pub lent_now : {A : Type 0} → Result (Bor A) Stop → Result A Stop
lent_now (Ok lent) = Ok lent.now
lent_now (Err stop) = Err stop

-- the call finds what is checked, which asks no question; or it finds no memory
abbrev pub Finds : {A : Type 0} → Result A Stop → Checked A → Type 0
Finds result checked = EndsWith result (run checked)

-- the call lends what is checked, which asks no question; or it finds no memory
abbrev pub Lends : {A : Type 0} → Result (Bor A) Stop → Checked A → Type 0
Lends result checked = EndsWith (lent_now result) (run checked)

-- the call answers what is checked, by what is answered to its questions; or it finds no memory
abbrev pub Answers : {A : Type 0} → Result A Stop → Checked A → Type 0
Answers result checked = EndsBy result (run checked)

-- no want of memory is answered
abbrev pub WantsNone : {A : Type 0} → Result A Stop → Type 0
WantsNone (Ok found) = ⊤
WantsNone (Err stop) = stop ≢ NoMemory

-- a fact for a refusal
abbrev pub IfRefused : Stop → (RefusalOf → Type 0) → Type 0
IfRefused (Refused refusal) P = P refusal
IfRefused NoMemory P = ⊤
