-- Between two corners a wall is straight, and the greater of two functions goes as the higher one.
use Rattle.std.proofs.Common.{◌≡◌, ℕ, zero, suc, ◌+◌, ◌-◌, ◌%◌, ◌<◌, ◌≤◌, Bool, true, false, ltb, List, [], ◌∷◌, length, get_or, ℤ, pos, ◌+ℤ◌, ◌≤ℤ◌, refl, add-zero, add-suc, arith}
use Rattle.std.proofs.lemmas.Int.{ints, clamps}
use Rattle.std.proofs.lemmas.Bool.{lt-ltb, le-ltb}
use Rattle.theory.specs.Corners.{above, rise, rising}
use Rattle.theory.proofs.Rising.{Rising, above_all}
use Rattle.walls.specs.declared.piece.Piece.{Piece}
use Rattle.walls.specs.Pieces.{bit, climb, greater_of, Linear}
use Rattle.walls.specs.Ranges.{Tame}

-- where the first k corners are no higher than u, and the next one is, all but k lie above u
pub above_at : (p : ℕ) (cs : List ℕ) → Rising p cs → (k u : ℕ) → k ≤ length cs → ((i : ℕ) → i < k → get_or cs i 0 ≤ u)
    → (k < length cs → u < get_or cs k 0) → above cs u ≡ length cs - k
above_at p [] r k u kl lo hi = omega arith
above_at p (c ∷ cs) r zero u kl lo hi =
    let lt : u < c = hi (omega arith) in
    let a : ltb u c ≡ true = lt-ltb u c lt in
    let e : above cs u ≡ length cs = above_all c cs r.1 u (omega arith) in
    rw a (omega arith)
above_at p (c ∷ cs) r (suc k) u kl lo hi =
    let le : c ≤ u = lo 0 (omega arith) in
    let a : ltb u c ≡ false = le-ltb u c le in
    let e : above cs u ≡ length cs - k = above_at c cs r.1 k u (omega arith) (λ i h. lo (suc i) (omega arith)) (λ h. hi (omega arith)) in
    rw a (omega arith)

-- between two corners a wall is straight
pub straight : (cs : List ℕ) → Rising 0 cs → (k a b : ℕ) (s : Bool) → k ≤ length cs → ((i : ℕ) → i < k → get_or cs i 0 ≤ a)
    → (k < length cs → b ≤ get_or cs k 0) → (length cs - k) % 2 ≡ bit s → (j : ℕ) → a + j ≤ b → rise cs (a + j) ≡ rise cs a + climb s j
straight cs r k a b true kl lo hi e zero h = rw add-zero (omega arith)
straight cs r k a b false kl lo hi e zero h = rw add-zero (omega arith)
straight cs r k a b true kl lo hi e (suc j) h =
    let ih : rise cs (a + j) ≡ rise cs a + j = straight cs r k a b true kl lo hi e j (omega arith) in
    let m : above cs (a + j) ≡ length cs - k = above_at 0 cs r k (a + j) kl (λ i g. omega (arith, lo i g)) (λ g. omega (arith, hi g)) in
    rw add-suc (omega arith)
straight cs r k a b false kl lo hi e (suc j) h =
    let ih : rise cs (a + j) ≡ rise cs a + 0 = straight cs r k a b false kl lo hi e j (omega arith) in
    let m : above cs (a + j) ≡ length cs - k = above_at 0 cs r k (a + j) kl (λ i g. omega (arith, lo i g)) (λ g. omega (arith, hi g)) in
    rw add-suc (omega arith)

-- the wall at t, from its last corner a
pub reached : (cs : List ℕ) → Rising 0 cs → (k a b t : ℕ) (s : Bool) → k ≤ length cs → ((i : ℕ) → i < k → get_or cs i 0 ≤ a)
    → (k < length cs → b ≤ get_or cs k 0) → (length cs - k) % 2 ≡ bit s → a ≤ t → t ≤ b → rise cs t ≡ rise cs a + climb s (t - a)
reached cs r k a b t s kl lo hi e h g =
    let q : a + (t - a) ≡ t = omega arith in
    rw q at (straight cs r k a b s kl lo hi e (t - a) (omega arith))

pub rise_low : (base : ℤ) (cs : List ℕ) → Tame (rising base cs) → (t : ℕ) → rise cs t ≤ 8192000
rise_low base cs h t = omega (arith, ints, h t, h 0)

-- a straight part of a wall is a piece, by its value at t, its slope and its end
pub piece_holds : (base : ℤ) (cs : List ℕ) → Rising 0 cs → (k t until : ℕ) (value : ℤ) (slope : Bool) → k ≤ length cs → ((i : ℕ) → i < k → get_or cs i 0 ≤ t)
    → (k < length cs → until ≤ get_or cs k 0) → (length cs - k) % 2 ≡ bit slope → value ≡ (base +ℤ pos (rise cs t))
    → (j : ℕ) → t + j ≤ until → rising base cs (t + j) ≡ (value +ℤ pos (climb slope j))
piece_holds base cs r k t until value slope kl lo hi e v j h =
    let q : rise cs (t + j) ≡ rise cs t + climb slope j = straight cs r k t until slope kl lo hi e j h in
    omega (arith, ints)

-- the greater of two functions goes as the higher piece, as long as that is the higher
pub over_linear : (a b : ℕ → ℤ) (t : ℕ) (p q : Piece) (e : ℕ) → e ≤ p.until → e ≤ q.until
    → ((j : ℕ) → t + j ≤ e → (q.value +ℤ pos (climb q.slope j)) ≤ℤ (p.value +ℤ pos (climb p.slope j)))
    → Linear a t p → Linear b t q → (j : ℕ) → t + j ≤ e
    → (greater_of a b (t + j) ≡ (p.value +ℤ pos (climb p.slope j))) × (greater_of b a (t + j) ≡ (p.value +ℤ pos (climb p.slope j)))
over_linear a b t p q e ep eq over la lb j h =
    let x = la j (omega arith) in
    let y = lb j (omega arith) in
    let o = over j h in
    (omega (arith, ints, clamps), omega (arith, ints, clamps))

pub climb_zero : (s : Bool) → climb s 0 ≡ 0
climb_zero true = refl
climb_zero false = refl

-- a piece begins with the function's value
pub linear_at : (f : ℕ → ℤ) (t : ℕ) (p : Piece) → t ≤ p.until → Linear f t p → f t ≡ p.value
linear_at f t p l lin =
    let q : t + 0 ≡ t = omega arith in
    let z = climb_zero p.slope in
    let e : f (t + 0) ≡ (p.value +ℤ pos (climb p.slope 0)) = lin 0 (omega arith) in
    let k : f t ≡ (p.value +ℤ pos (climb p.slope 0)) = rw q at e in
    omega (arith, ints)
