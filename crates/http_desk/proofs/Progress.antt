-- How the progress of a stream goes on: bytes are taken, requests are answered.
use Rattle.std.proofs.Common.{◌≡◌, ◌∙◌, ℕ, zero, suc, ◌+◌, ◌≤◌, ◌==◌, List, [], ◌∷◌, ◌++◌, length, refl, ap, sym}
use Rattle.std.proofs.Common.{subst, arith}
use Rattle.std.proofs.Common.{zero-add, append-nil}
use Rattle.std.specs.Io.KnownBytes.{Consumes}
use Rattle.std.proofs.KnownBytes.{Consumes-nil, Consumes-trans}
use Rattle.std.proofs.lemmas.List.{map-append}
use Rattle.std.proofs.lemmas.List.Concat.{flat_map-append}
use Rattle.std.proofs.lemmas.List.Sums.{sum_by-append}
use Rattle.desk_words.specs.Tables.{Rows}
use Rattle.keeper_core.specs.Keeping.{IfTold}
use Rattle.http_cut.specs.Cut.{BeginsRequest}
use Rattle.http_cut.proofs.Cuts.{Begins-push, Begins-more}
use Rattle.http_desk.specs.Answered.{Answered, IsServed, Served, requests, texts, last_tables, failures, failure}
use Rattle.http_desk.specs.Answered.{all_most_calls, all_sure_calls, most_calls, sure_calls}
use Rattle.http_desk.specs.Fronts.{Front}
use Rattle.http_desk.specs.Scenes.{RoseBy, RoseWithin, Scene, risen_by}
use Rattle.desk_base.specs.Counts.{risen}
use Rattle.http_desk.specs.Streams.{Progress}

-- one more request is answered
pub Served-push : (front : Front) (limit count : ℕ) (before : Rows) (answers : List Answered) (a : Answered)
    → Served front limit count before answers
    → IsServed front (last_tables before answers) ((count + length answers + 1) == limit) a
    → Served front limit count before (answers ++ a ∷ [])
Served-push front limit count before [] a served h =
    let place : count + 0 + 1 ≡ count + 1 = omega arith in
    (subst (λ (n : ℕ). IsServed front before (n == limit) a) place h, tt)
Served-push front limit count before (first ∷ answers) a served h =
    let place : count + length (first ∷ answers) + 1 ≡ count + 1 + length answers + 1 = omega arith in (
      served.0,
      Served-push front limit (count + 1) first.tables answers a served.1
          (subst (λ (n : ℕ). IsServed front (last_tables first.tables answers) (n == limit) a) place h),
    )

-- the tables after it are those after all
pub last_tables-push : (tables : Rows) (answers : List Answered) (a : Answered)
    → last_tables tables (answers ++ a ∷ []) ≡ a.tables
last_tables-push tables [] a = refl
last_tables-push tables (first ∷ answers) a = last_tables-push first.tables answers a

pub requests-push : (answers : List Answered) (a : Answered)
    → requests (answers ++ a ∷ []) ≡ requests answers ++ a.request ∷ []
requests-push answers a = map-append (λ (b : Answered). b.request) answers (a ∷ [])

pub texts-push : (answers : List Answered) (a : Answered) → texts (answers ++ a ∷ []) ≡ texts answers ++ a.text
texts-push answers a =
    flat_map-append (λ (b : Answered). b.text) answers (a ∷ []) ∙ ap (λ l. texts answers ++ l) (append-nil a.text)

pub failures-push : (answers : List Answered) (a : Answered)
    → failures (answers ++ a ∷ []) ≡ failures answers + failure a.outcome
failures-push answers a = sum_by-append (λ (b : Answered). failure b.outcome) answers (a ∷ []) ∙ omega arith

pub sure_calls-push : (answers : List Answered) (a : Answered)
    → all_sure_calls (answers ++ a ∷ []) ≡ all_sure_calls answers + sure_calls a.outcome
sure_calls-push answers a = sum_by-append (λ (b : Answered). sure_calls b.outcome) answers (a ∷ []) ∙ omega arith

pub most_calls-push : (answers : List Answered) (a : Answered)
    → all_most_calls (answers ++ a ∷ []) ≡ all_most_calls answers + most_calls a.outcome
most_calls-push answers a = sum_by-append (λ (b : Answered). most_calls b.outcome) answers (a ∷ []) ∙ omega arith

-- a count that was raised in turn was raised by the sum
risen_by-add : (first second before : ℕ) → risen_by (first + second) before ≡ risen_by second (risen_by first before)
risen_by-add first zero before = let none : first + 0 ≡ first = omega arith in ap (λ (n : ℕ). risen_by n before) none
risen_by-add first (suc second) before =
    let more : first + suc second ≡ suc (first + second) = omega arith in
    ap (λ (n : ℕ). risen_by n before) more ∙ ap risen (risen_by-add first second before)

pub RoseBy-then : (first second before middle now : ℕ) → RoseBy first before middle → RoseBy second middle now
    → RoseBy (first + second) before now
RoseBy-then first second before middle now h k =
    k ∙ ap (risen_by second) h ∙ sym (risen_by-add first second before)

pub RoseWithin-then : (least most more all before middle now : ℕ) → RoseWithin least most before middle
    → RoseWithin more all middle now → RoseWithin (least + more) (most + all) before now
RoseWithin-then least most more all before middle now h k = record {
  times = h.times + k.times;
  enough = omega (arith, h.enough, k.enough);
  few = omega (arith, h.few, k.few);
  rose = RoseBy-then h.times k.times before middle now h.rose k.rose;
}

-- a count was not raised
pub not_raised : (most before now : ℕ) → now ≡ before → RoseWithin 0 most before now
not_raised most before now same = record { times = 0; enough = omega arith; few = omega arith; rose = same }

-- it was raised once
pub raised_once : (least before now : ℕ) → least ≤ 1 → now ≡ risen before → RoseWithin least 1 before now
raised_once least before now few is = record { times = 1; enough = few; few = omega arith; rose = is }

-- nothing was done yet
pub Progress-none : (front : Front) (limit : ℕ) (old : Scene) → IfTold old.told old.tables → Progress front limit old old [] [] []
Progress-none front limit old told = record {
  took = Consumes-nil old.left;
  begins = refl;
  served = tt;
  tables = refl;
  told = told;
  failed = refl;
  called = not_raised 0 old.uses.calls old.uses.calls refl;
}

-- bytes are taken
pub Progress-takes : (front : Front) (limit : ℕ) (old mid new : Scene) (taken : List ℕ) (answers : List Answered)
    (rest more : List ℕ) → Progress front limit old mid taken answers rest → Consumes mid.left new.left more → new.tables ≡ mid.tables
    → new.told ≡ mid.told → new.uses ≡ mid.uses → Progress front limit old new (taken ++ more) answers (rest ++ more)
Progress-takes front limit old mid new taken answers rest more p took tables told uses = record {
  took = Consumes-trans old.left mid.left new.left taken more p.took took;
  begins = Begins-more taken (requests answers) rest more p.begins;
  served = p.served;
  tables = tables ∙ p.tables;
  told = rw (told, tables) p.told;
  failed = rw uses p.failed;
  called = rw uses p.called;
}

-- a request at the front is answered
pub Progress-answers : (front : Front) (limit : ℕ) (old mid new : Scene) (taken : List ℕ) (answers : List Answered)
    (rest : List ℕ) (a : Answered) (following : List ℕ) → Progress front limit old mid taken answers rest
    → BeginsRequest rest a.request.0 a.request.1 following → IsServed front mid.tables ((length answers + 1) == limit) a
    → RoseBy (failure a.outcome) mid.uses.faults new.uses.faults
    → RoseWithin (sure_calls a.outcome) (most_calls a.outcome) mid.uses.calls new.uses.calls → new.left ≡ mid.left →
    new.tables ≡ a.tables
    → IfTold new.told new.tables → Progress front limit old new taken (answers ++ a ∷ []) following
Progress-answers front limit old mid new taken answers rest a following p whole is failed called left tables told = record {
  took = rw left p.took;
  begins = rw (requests-push answers a)
      (Begins-push taken (requests answers) rest a.request following p.begins whole);
  served = Served-push front limit 0 old.tables answers a p.served
      (rw (zero-add (length answers)) (subst (λ (t : Rows). IsServed front t ((length answers + 1) == limit) a) p.tables is));
  tables = tables ∙ sym (last_tables-push old.tables answers a);
  told = told;
  failed = rw (failures-push answers a)
      (RoseBy-then (failures answers) (failure a.outcome) old.uses.faults mid.uses.faults new.uses.faults p.failed
      failed);
  called = rw (sure_calls-push answers a, most_calls-push answers a)
      (RoseWithin-then (all_sure_calls answers) (all_most_calls answers) (sure_calls a.outcome) (most_calls a.outcome)
      old.uses.calls mid.uses.calls new.uses.calls p.called called);
}
