-- Parts that are written one after another.
use Rattle.std.proofs.Common.{◌≡◌, List, ◌++◌, append_assoc}

-- four parts
pub four-following : {A : Type 0} (start a b c d one two three all : List A) → one ≡ start ++ a → two ≡ one ++ b
    → three ≡ two ++ c → all ≡ three ++ d → all ≡ start ++ (a ++ (b ++ (c ++ d)))
four-following start a b c d one two three all first second third last =
    rw (last, third, second, first) (simp append_assoc)

-- five parts
pub five-following : {A : Type 0} (start a b c d e one two three four all : List A) → one ≡ start ++ a → two ≡ one ++ b
    → three ≡ two ++ c → four ≡ three ++ d → all ≡ four ++ e → all ≡ start ++ (a ++ (b ++ (c ++ (d ++ e))))
five-following start a b c d e one two three four all first second third fourth last =
    rw (last, fourth, third, second, first) (simp append_assoc)
