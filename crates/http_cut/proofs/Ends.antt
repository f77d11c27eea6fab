-- Texts that end inside a target.
use Rattle.std.proofs.Common.{◌≡◌, ◌≢◌, ℕ, ◌+◌, ◌<◌, List, [], ◌∷◌, ◌++◌, length, get_or, drop, slice_range, sym, ap}
use Rattle.std.proofs.Common.{◌∙◌, subst, arith, append_assoc, append-nil, inl, inr}
use Rattle.std.specs.Prelude.{◌↔◌, IsTrue}
use Rattle.std.specs.List.{list_all}
use Rattle.std.proofs.lemmas.Grind.{flat_map-append}
use Rattle.std.proofs.lemmas.List.Sums.{AllPass-from_list_all, list_all-from_AllPass}
use Rattle.std.proofs.lemmas.Bool.{cases_lt}
use Rattle.std.proofs.lemmas.List.{drop_more}
use Rattle.httparse.specs.Grammar.{LineEnd, print_end, print_blank, AllPass, is_token_byte, is_uri_byte, EndsInTarget}
use Rattle.httparse.specs.Pieces.{IsRunAt}
use Rattle.httparse.proofs.PieceLemmas.{space_ends_token, Method_deterministic}
use Rattle.httparse.proofs.RunLemmas.{drop_split, length-slice_range, IsRunAt_pass, IsRunAt_unique, IsRunAt_open}
use Rattle.http_cut.specs.Lines.{SkipsLines, BeginsMethod, EndsAfterMethod}
use Rattle.http_cut.proofs.Counting.{following_blank, BeginsNoLine-token}

-- ---- the method

-- a token and then a space are a method
pub run_is_method : (text : List ℕ) (end : ℕ) → IsRunAt is_token_byte text 0 end → end ≢ 0 → end < length text
    → get_or text end 0 ≡ 32 → BeginsMethod text (drop (end + 1) text)
run_is_method text end run some inside space = (
  slice_range text 0 end,
  (omega (arith, length-slice_range text 0 end run.ordered run.in_range), IsRunAt_pass run),
  drop_split text 0 end run.ordered
      ∙ ap (λ (t : List ℕ). slice_range text 0 end ++ t)
      (drop_more text end 0 inside ∙ ap (λ (b : ℕ). b ∷ drop (end + 1) text) space),
)

-- a method is the run of its bytes
pub method_is_run : (text target : List ℕ) (end : ℕ) → IsRunAt is_token_byte text 0 end → BeginsMethod text target
    → (end ≢ 0) × (end < length text) × (get_or text end 0 ≡ 32)
method_is_run text target end run (method, token, e) =
    elim (cases_lt end (length text)) [
      | inr past ↦ absurd (IsRunAt_open run past method (32 ∷ target) space_ends_token e)
      | inl inside ↦
          let same = IsRunAt_unique run inside [] method (32 ∷ target) token.1 space_ends_token (append-nil text ∙ e) in
          let word : length (slice_range text 0 end) ≡ length method = ap length same.0 in
          let following : get_or text end 0 ∷ drop (end + 1) text ≡ 32 ∷ target =
          sym (drop_more text end 0 inside) ∙ sym (append-nil (drop end text)) ∙ same.1 in
          (omega (arith, length-slice_range text 0 end run.ordered run.in_range), inside, cc)
    ]

-- one target stands after the method
BeginsMethod_unique : (text a b : List ℕ) → BeginsMethod text a → BeginsMethod text b → a ≡ b
BeginsMethod_unique text a b (m, token, e) (n, other, f) =
    (Method_deterministic.unique m n text a b (token.0, token.1, e) (other.0, other.1, f)).1

-- the test of the bytes after the method
pub target_test : (text target : List ℕ) → BeginsMethod text target
    → IsTrue (list_all is_uri_byte target) ↔ EndsAfterMethod text
target_test text target begins = (
  λ all. (target, begins, AllPass-from_list_all is_uri_byte target all),
  λ x. list_all-from_AllPass is_uri_byte target
      (subst (AllPass is_uri_byte) (BeginsMethod_unique text x.0 target x.1 begins) x.2),
)

-- ---- the empty lines

-- one more
pub print_blank-push : (blank : List LineEnd) (end : LineEnd) → print_blank (blank ++ end ∷ [])
    ≡ print_blank blank ++ print_end end
print_blank-push blank end =
    flat_map-append print_end blank (end ∷ [])
    ∙ ap (λ (t : List ℕ). print_blank blank ++ t) (append-nil (print_end end))

-- what stands after them says whether the bytes end in a target
pub EndsInTarget-following : (bytes text : List ℕ) → SkipsLines bytes text → EndsAfterMethod text ↔ EndsInTarget bytes
EndsInTarget-following bytes text (blank, e, none) = (within, without)
  where
    within : EndsAfterMethod text → EndsInTarget bytes
    within (target, (method, token, is), passes) =
        (blank, method, target, token, passes, e ∙ ap (λ (t : List ℕ). print_blank blank ++ t) is ∙ simp append_assoc)

    without : EndsInTarget bytes → EndsAfterMethod text
    without (before, method, target, token, passes, is) = (
      target,
      (
        method,
        token,
        following_blank blank before text (method ++ 32 ∷ target) none
            (BeginsNoLine-token method (32 ∷ target) token.0 token.1)
            (sym e ∙ is ∙ append_assoc (print_blank before) method (32 ∷ target)),
      ),
      passes,
    )
