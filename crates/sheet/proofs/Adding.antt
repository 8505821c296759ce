-- Texts put at a page's end, one after another.
use Rattle.std.proofs.Common.{◌≡◌, ℕ, ◌+◌, ◌/◌, ◌%◌, ◌^◌, ◌<◌, ◌≤◌, List, [], ◌∷◌, ◌++◌, length, ℤ, pos, negsuc, nat_abs, ◌≤ℤ◌, ◌<ℤ◌, sym, refl, ap, ◌∙◌, subst, append_assoc, append-nil, arith, length-append, w32, w64, SFits, to_z, of_z}
use lib.Signed.{mag}
use Rattle.std.proofs.lemmas.Int.{ints, to_z-of_z}
use Rattle.numbers.specs.Numbers.{written, decimal}
use Rattle.numbers.proofs.Written.{written_last, written_digit}
use Rattle.sheet.specs.declared.page.Page.{Page}
use Rattle.sheet.specs.Page.{line, said, Room, Adds}

pub adds_none : (p : Page) → Adds [] p p
adds_none p = record { says = sym (append-nil (said p)) }

pub adds_more : {xs ys : List ℕ} {p q r : Page} → Adds xs p q → Adds ys q r → Adds (xs ++ ys) p r
adds_more {xs} {ys} {p} a b =
    record { says = b.says ∙ (ap (λ t. t ++ ys) a.says ∙ append_assoc (said p) xs ys) }

-- how long a page's text then is
pub longer : {xs : List ℕ} {p q : Page} → Adds xs p q → length (said q) ≡ length (said p) + length xs
longer {xs} {p} a = ap length a.says ∙ length-append (said p) xs

pub adds_as : {xs ys : List ℕ} {p q : Page} → xs ≡ ys → Adds xs p q → Adds ys p q
adds_as {xs} {ys} {p} {q} e a = subst (λ t. Adds t p q) e a

pub from_same : {text : List ℕ} {p q r : Page} → q ≡ p → Adds text q r → Adds text p r
from_same {text} {p} {q} {r} e a = subst (λ b. Adds text b r) e a

pub line_length : (key value : List ℕ) → length (line key value) ≡ length key + length value + 1
unfolding line
line_length key value = omega (arith, length-append key (value ++ (10 ∷ [])), length-append value (10 ∷ []))

-- where two texts have room, the first has, and then the second
pub room_first : (xs ys : List ℕ) {p : Page} → Room (xs ++ ys) p → Room xs p
room_first xs ys h = record { fits = omega (arith, length-append xs ys) }

pub room_then : (xs ys : List ℕ) {p q : Page} → Room (xs ++ ys) p → Adds xs p q → Room ys q
room_then xs ys h a = record { fits = omega (arith, length-append xs ys, longer a) }

pub room_as : {xs ys : List ℕ} {p : Page} → xs ≡ ys → Room xs p → Room ys p
room_as {p = p} e h = subst (λ t. Room t p) e h

-- a figure of 32 bits that is handed on in 64
pub widened : (m r : ℤ) → SFits w32 m → mag r < 2 ^ 63 → r ≡ to_z w32 (of_z w32 m) → to_z w64 (of_z w64 r) ≡ m
widened m r f h e = to_z-of_z w64 r (record { sfits = h }) ∙ (e ∙ to_z-of_z w32 m f)

-- ---- digits
pub last_length : (n : ℕ) → 10 ≤ n → length (written n) ≡ length (written (n / 10)) + 1
last_length n h = ap length (written_last n h) ∙ length-append (written (n / 10)) ((48 + n % 10) ∷ [])

pub digit_length : (n : ℕ) → n < 10 → length (written n) ≡ 1
digit_length n h = ap length (written_digit n h)

pub last_digit : (n : ℕ) → n < 10 → (48 + n % 10) ∷ [] ≡ written n
last_digit n h = let r : n % 10 ≡ n = omega arith in ap (λ d. (48 + d) ∷ []) r ∙ sym (written_digit n h)

pub decimal_below : (z : ℤ) → z <ℤ pos 0 → decimal z ≡ 45 ∷ written (nat_abs z)
unfolding decimal
decimal_below (pos n) h = absurd (omega (arith, ints))
decimal_below (negsuc n) h = refl

pub decimal_above : (z : ℤ) → pos 0 ≤ℤ z → decimal z ≡ written (nat_abs z)
unfolding decimal
decimal_above (pos n) h = refl
decimal_above (negsuc n) h = absurd (omega (arith, ints))
