-- Each way to make a format of formats keeps that what is written is read back, and that nothing else is read.
use Rattle.std.proofs.Common.{◌≡◌, ℕ, zero, suc, ◌<◌, ◌^◌, ◌%◌, Bool, true, false}
use Rattle.std.proofs.Common.{List, [], ◌∷◌, ◌++◌, length, take, drop, get_or, Some, None, Option, refl, sym, ap, ap₂}
use Rattle.std.proofs.Common.{◌∙◌}
use Rattle.std.proofs.Common.{append_assoc, length-append, arith}
use Rattle.std.specs.Prelude.{flat_map, option_map, IsTrue, nat_le, nat_lt, slice_get, if◌then◌else◌}
use Rattle.std.specs.Int.{w16, w32, w64, to_be_bytes, from_be_bytes}
use Rattle.std.specs.List.{AllByRecursion, list_all}
use Rattle.std.proofs.lemmas.Bool.{and_from, and_parts, le-leb, leb-true, lt-ltb, ltb-true}
use Rattle.std.proofs.lemmas.List.{take_at, drop_at, take-append-drop, length-take-le}
use Rattle.std.proofs.lemmas.Nat.{be_bytes_2, be_bytes_4, be_bytes_8}
use Rattle.std.proofs.lemmas.Nat.{from_be_bytes-to_be_bytes_2, from_be_bytes-to_be_bytes_4, from_be_bytes-to_be_bytes_8}
use Rattle.desk_base.proofs.Options.{option_map-Some}
use Rattle.desk_packing.proofs.Options.{and_then-some, if-some, pair-parts, some-pair}
use Rattle.desk_packing.specs.Formats.{Format, IsApart, IsExact, has_bytes, split, fixed, sized, passing, coded}
use Rattle.desk_packing.specs.Formats.{coded_in}
use Rattle.desk_packing.specs.Formats.{items_in, counted, both, formed, none, u16, u32, u64, text, is_text, bytes, list}
use Rattle.desk_packing.specs.Formats.{flag, flag_code}

-- bytes that are all below 256 are so at each place
below-at : (front : List ℕ) (i : ℕ) → list_all (λ byte. nat_lt byte 256) front ≡ true → get_or front i 0 < 256
below-at [] i all = omega arith
below-at (x ∷ front) zero all = ltb-true x 256 (and_parts (nat_lt x 256) _ all).0
below-at (x ∷ front) (suc i) all = below-at front i (and_parts (nat_lt x 256) _ all).1

-- a number of so many bytes, the greatest first
module _ (count limit : ℕ) (print : ℕ → List ℕ) (read : List ℕ → ℕ) (long : (n : ℕ) → length (print n) ≡ count)
    (small : (n : ℕ) → list_all (λ byte. nat_lt byte 256) (print n) ≡ true)
    (goes_back : (n : ℕ) → n < limit → read (print n) ≡ n)
    (comes_back : (front : List ℕ) (n : ℕ) → length front ≡ count → ((i : ℕ) → get_or front i 0 < 256)
    → n ≡ read front → print n ≡ front)
    (fits : (front : List ℕ) → ((i : ℕ) → get_or front i 0 < 256) → read front < limit) where
  abbrev number : Format ℕ
  number = record {
    print = print;
    Fits = λ n. n < limit;
    parse = λ packed. if has_bytes count packed then Some (read (take count packed), drop count packed) else None;
  }

  has : (n : ℕ) (rest : List ℕ) → has_bytes count (print n ++ rest) ≡ true
  has n rest = and_from _ _
      (le-leb count (length (print n ++ rest)) (omega (arith, long n, length-append (print n) rest)))
      (rw (take_at (print n) rest count (long n)) (small n))

  number-back : (n : ℕ) (rest : List ℕ) → n < limit → number.parse (print n ++ rest) ≡ Some (n, rest)
  number-back n rest below =
      rw (has n rest, take_at (print n) rest count (long n), drop_at (print n) rest count (long n), goes_back n below)

  number-only : (packed rest : List ℕ) (n : ℕ) → number.parse packed ≡ Some (n, rest)
      → (n < limit) × (packed ≡ print n ++ rest)
  number-only packed rest n found =
      let (there, is) = if-some {A = ℕ × List ℕ} (has_bytes count packed) (read (take count packed), drop count packed)
      (n, rest) found in
      let (enough, small_front) = and_parts (nat_le count (length packed)) _ there in
      let (number_is, rest_is) = pair-parts (read (take count packed)) n (drop count packed) rest is in
      let each = λ (i : ℕ). below-at (take count packed) i small_front in (
        rw (← number_is) (fits (take count packed) each),
        sym (take-append-drop count packed)
            ∙ ap₂ ◌++◌ (sym (comes_back (take count packed) n
            (length-take-le count packed (leb-true count (length packed) enough)) each (sym number_is))) rest_is,
      )

  pub number-exact : IsExact number
  number-exact = record { back = number-back; only = number-only }

byte-below : (n : ℕ) → nat_lt (n % 256) 256 ≡ true
byte-below n = lt-ltb (n % 256) 256 (omega arith)

pub u16-exact : IsExact u16
u16-exact = number-exact 2 (2 ^ 16) (to_be_bytes w16) (from_be_bytes w16) (λ n. refl) (λ n. simp byte-below)
    from_be_bytes-to_be_bytes_2 be_bytes_2 (λ front each. omega (arith, each 0, each 1))

pub u32-exact : IsExact u32
u32-exact = number-exact 4 (2 ^ 32) (to_be_bytes w32) (from_be_bytes w32) (λ n. refl) (λ n. simp byte-below)
    from_be_bytes-to_be_bytes_4 be_bytes_4 (λ front each. omega (arith, each 0, each 1, each 2, each 3))

pub u64-exact : IsExact u64
u64-exact = number-exact 8 (2 ^ 64) (to_be_bytes w64) (from_be_bytes w64) (λ n. refl) (λ n. simp byte-below)
    from_be_bytes-to_be_bytes_8 be_bytes_8
    (λ front each. omega (arith, each 0, each 1, each 2, each 3, each 4, each 5, each 6, each 7))

split-back : (count : ℕ) (front rest : List ℕ) → length front ≡ count → split count (front ++ rest) ≡ Some (front, rest)
split-back count front rest long =
    let there : nat_le count (length (front ++ rest)) ≡ true
    = le-leb count (length (front ++ rest)) (omega (arith, length-append front rest)) in
    rw (there, take_at front rest count long, drop_at front rest count long)

split-only : (count : ℕ) (packed rest front : List ℕ) → split count packed ≡ Some (front, rest)
    → (length front ≡ count) × (packed ≡ front ++ rest)
split-only count packed rest front found =
    let (there, is) = if-some {A = List ℕ × List ℕ} (nat_le count (length packed))
    (take count packed, drop count packed)
    (front, rest) found in
    let (front_is, rest_is) = pair-parts (take count packed) front (drop count packed) rest is in (
      ap length (sym front_is) ∙ length-take-le count packed (leb-true count (length packed) there),
      sym (take-append-drop count packed) ∙ ap₂ ◌++◌ front_is rest_is,
    )

pub fixed-exact : (count : ℕ) → IsExact (fixed count)
fixed-exact count = record {
  back = λ front rest. split-back count front rest;
  only = λ packed rest front. split-only count packed rest front;
}

module _ (number : Format ℕ) (exact : IsExact number) where
  sized-back : (x rest : List ℕ) → number.Fits (length x) → (sized number).parse ((sized number).print x ++ rest)
      ≡ Some (x, rest)
  sized-back x rest fits =
      rw (append_assoc (number.print (length x)) x rest, exact.back (length x) (x ++ rest) fits)
      (split-back (length x) x rest refl)

  sized-only : (packed rest x : List ℕ) → (sized number).parse packed ≡ Some (x, rest)
      → number.Fits (length x) × (packed ≡ (sized number).print x ++ rest)
  sized-only packed rest x found =
      let (front, front_is, split_is) = and_then-some (λ found. split found.0 found.1) (number.parse packed) (x, rest)
      found in
      let (fits, starts) = exact.only packed front.1 front.0 front_is in
      let (long, follows) = split-only front.0 front.1 rest x split_is in (
        rw long fits,
        starts ∙ ap₂ (λ n more. number.print n ++ more) (sym long) follows
            ∙ sym (append_assoc (number.print (length x)) x rest),
      )

  pub sized-exact : IsExact (sized number)
  sized-exact = record { back = sized-back; only = sized-only }

module _ {A : Type 0} (test : A → Bool) (format : Format A) (exact : IsExact format) where
  passing-only : (packed rest : List ℕ) (x : A) → (passing test format).parse packed ≡ Some (x, rest)
      → (format.Fits x × IsTrue (test x)) × (packed ≡ format.print x ++ rest)
  passing-only packed rest x found =
      let (front, front_is, kept) = and_then-some (λ found. if test found.0 then Some found else None)
      (format.parse packed) (x, rest) found in
      let (passes, same) = if-some {A = A × List ℕ} (test front.0) front (x, rest) kept in
      let (fits, starts) = exact.only packed rest x (front_is ∙ ap Some same) in
      ((fits, sym (ap (λ (p : A × List ℕ). test p.0) same) ∙ passes), starts)

  pub passing-exact : IsExact (passing test format)
  passing-exact = record {
    back = λ x rest fits. rw (exact.back x rest fits.0, fits.1);
    only = passing-only;
  }

module _ {A : Type 0} (values : List A) (code : A → ℕ) (at_code : (x : A) → slice_get values (code x) ≡ Some x)
    (is_code : (byte : ℕ) (x : A) → slice_get values byte ≡ Some x → byte ≡ code x) where
  coded-only : (packed rest : List ℕ) (x : A) → coded_in values packed ≡ Some (x, rest)
      → Unit {0} × (packed ≡ code x ∷ rest)
  coded-only [] rest x found = absurd cc
  coded-only (byte ∷ following) rest x found =
      let (value, there, made) = option_map-Some (λ x. (x, following)) (slice_get values byte) (x, rest) found in
      let (same, rest_is) = pair-parts value x following rest made in
      (tt, ap₂ ◌∷◌ (is_code byte x (there ∙ ap Some same)) rest_is)

  pub coded-exact : IsExact (coded values code)
  coded-exact = record { back = λ x rest fits. rw (at_code x); only = coded-only }

module _ {A : Type 0} (number : Format ℕ) (number_exact : IsExact number) (format : Format A)
    (exact : IsExact format) where
  items-back : (xs : List A) (rest : List ℕ) → AllByRecursion format.Fits xs
      → items_in format (length xs) (flat_map format.print xs ++ rest) ≡ Some (xs, rest)
  items-back [] rest fit = refl
  items-back (x ∷ xs) rest fit =
      rw (
        append_assoc (format.print x) (flat_map format.print xs) rest,
        exact.back x (flat_map format.print xs ++ rest) fit.0,
        items-back xs rest fit.1,
      )

  items-only : (count : ℕ) (packed rest : List ℕ) (xs : List A) → items_in format count packed ≡ Some (xs, rest)
      → (length xs ≡ count) × AllByRecursion format.Fits xs × (packed ≡ flat_map format.print xs ++ rest)
  items-only zero packed rest xs found =
      let (none, rest_is) = some-pair [] xs packed rest found in
      rw (← none) (refl, tt, rest_is)
  items-only (suc count) packed rest xs found =
      let (first, first_is, next) = and_then-some
      (λ first. option_map (λ more. (first.0 ∷ more.0, more.1)) (items_in format count first.1))
      (format.parse packed) (xs, rest) found in
      let (more, more_are, made) = option_map-Some (λ more. (first.0 ∷ more.0, more.1)) (items_in format count first.1)
      (xs, rest) next in
      let (xs_are, rest_is) = pair-parts (first.0 ∷ more.0) xs more.1 rest made in
      let (fits, starts) = exact.only packed first.1 first.0 first_is in
      let (long, fit, follow) = items-only count first.1 more.1 more.0 more_are in
      rw (← xs_are) (
        ap suc long,
        (fits, fit),
        starts ∙ ap (λ b. format.print first.0 ++ b) (follow ∙ ap (λ b. flat_map format.print more.0 ++ b) rest_is)
            ∙ sym (append_assoc (format.print first.0) (flat_map format.print more.0) rest),
      )

  counted-back : (xs : List A) (rest : List ℕ) → (counted number format).Fits xs
      → (counted number format).parse ((counted number format).print xs ++ rest) ≡ Some (xs, rest)
  counted-back xs rest fits =
      rw (
        append_assoc (number.print (length xs)) (flat_map format.print xs) rest,
        number_exact.back (length xs) (flat_map format.print xs ++ rest) fits.0,
      ) (items-back xs rest fits.1)

  counted-only : (packed rest : List ℕ) (xs : List A) → (counted number format).parse packed ≡ Some (xs, rest)
      → (counted number format).Fits xs × (packed ≡ (counted number format).print xs ++ rest)
  counted-only packed rest xs found =
      let (front, front_is, items_are) = and_then-some (λ found. items_in format found.0 found.1) (number.parse packed)
      (xs, rest) found in
      let (fits, starts) = number_exact.only packed front.1 front.0 front_is in
      let (long, fit, follow) = items-only front.0 front.1 rest xs items_are in (
        (rw long fits, fit),
        starts ∙ ap₂ (λ n more. number.print n ++ more) (sym long) follow
            ∙ sym (append_assoc (number.print (length xs)) (flat_map format.print xs) rest),
      )

  pub counted-exact : IsExact (counted number format)
  counted-exact = record { back = counted-back; only = counted-only }

module _ {A B : Type 0} (f : Format A) (g : Format B) (f_exact : IsExact f) (g_exact : IsExact g) where
  both-back : (x : A × B) (rest : List ℕ) → (both f g).Fits x → (both f g).parse ((both f g).print x ++ rest)
      ≡ Some (x, rest)
  both-back x rest fits =
      rw (
        append_assoc (f.print x.0) (g.print x.1) rest,
        f_exact.back x.0 (g.print x.1 ++ rest) fits.0,
        g_exact.back x.1 rest fits.1,
      )

  both-only : (packed rest : List ℕ) (x : A × B) → (both f g).parse packed ≡ Some (x, rest)
      → (both f g).Fits x × (packed ≡ (both f g).print x ++ rest)
  both-only packed rest x found =
      let (first, first_is, next) = and_then-some
      (λ one. option_map (λ other. ((one.0, other.0), other.1)) (g.parse one.1)) (f.parse packed) (x, rest) found in
      let (second, second_is, made) = option_map-Some (λ other. ((first.0, other.0), other.1)) (g.parse first.1)
      (x, rest) next in
      let (x_is, rest_is) = pair-parts {A = A × B} (first.0, second.0) x second.1 rest made in
      let (one_fits, starts) = f_exact.only packed first.1 first.0 first_is in
      let (other_fits, follows) = g_exact.only first.1 second.1 second.0 second_is in
      rw (← x_is) (
        (one_fits, other_fits),
        starts ∙ ap (λ b. f.print first.0 ++ b) (follows ∙ ap (λ b. g.print second.0 ++ b) rest_is)
            ∙ sym (append_assoc (f.print first.0) (g.print second.0) rest),
      )

  pub both-exact : IsExact (both f g)
  both-exact = record { back = both-back; only = both-only }

module _ {A B : Type 0} (format : Format A) (into : A → B) (back : B → A) (into-back : (y : B) → into (back y) ≡ y)
    (back-into : (x : A) → back (into x) ≡ x) (exact : IsExact format) where
  formed-only : (packed rest : List ℕ) (y : B) → (formed format into back).parse packed ≡ Some (y, rest)
      → format.Fits (back y) × (packed ≡ format.print (back y) ++ rest)
  formed-only packed rest y found =
      let (front, front_is, made) = option_map-Some (λ found. (into found.0, found.1)) (format.parse packed) (y, rest)
      found in
      let (into_is, rest_is) = pair-parts (into front.0) y front.1 rest made in
      let y_is : back y ≡ front.0 = ap back (sym into_is) ∙ back-into front.0 in
      let (fits, starts) = exact.only packed front.1 front.0 front_is in
      rw y_is (fits, starts ∙ ap (λ b. format.print front.0 ++ b) rest_is)

  pub formed-exact : IsExact (formed format into back)
  formed-exact = record {
    back = λ y rest fits. rw (exact.back (back y) rest fits, into-back y);
    only = formed-only;
  }

pub none-exact : {A : Type 0} → IsExact (none {A = A})
none-exact {A} = record {
  back = λ x rest fits. rw fits;
  only = λ packed rest x found.
      let (none, rest_is) = some-pair [] x packed rest found in
      (sym none, rest_is);
}

pub text-exact : IsExact text
text-exact = passing-exact is_text (sized u16) (sized-exact u16 u16-exact)

pub bytes-exact : IsExact bytes
bytes-exact = sized-exact u32 u32-exact

pub list-exact : {A : Type 0} (format : Format A) → IsExact format → IsExact (list format)
list-exact format exact = counted-exact u32 u32-exact format exact

flag-is : (byte : ℕ) (x : Bool) → slice_get (false ∷ true ∷ []) byte ≡ Some x → byte ≡ flag_code x
flag-is zero x found = let e : x ≡ false = cc in rw e
flag-is (suc zero) x found = let e : x ≡ true = cc in rw e
flag-is (suc (suc byte)) x found = absurd cc

flag-at : (x : Bool) → slice_get (false ∷ true ∷ []) (flag_code x) ≡ Some x
flag-at false = refl
flag-at true = refl

pub flag-exact : IsExact flag
flag-exact = coded-exact (false ∷ true ∷ []) flag_code flag-at flag-is

-- what is read back has bytes of its own
pub apart : {A : Type 0} (format : Format A) → IsExact format → IsApart format
apart {A} format exact one other fits fits_too same =
    let found : ◌≡◌ {A = Option (A × List ℕ)} (Some (one, [])) (Some (other, []))
    = sym (exact.back one [] fits) ∙ ap (λ front. format.parse (front ++ [])) same ∙ exact.back other [] fits_too in
    (some-pair one other [] [] found).0
