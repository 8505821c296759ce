-- What is told of a job, step by step.
use Rattle.std.proofs.Common.{◌≡◌, ℕ, ◌-◌, ◌<◌, List, [], ◌∷◌, length, Ok, Err, Result, sym, refl, ap, ◌∙◌, arith}
use Rattle.terms.specs.declared.fault.Fault.{Fault}
use Rattle.terms.specs.declared.fault.Refusal.TheVariants.{BytesAfterJob}
use Rattle.terms.specs.Refusals.{fault}
use Rattle.terms.specs.declared.side.Side.{Side}
use Rattle.terms.specs.declared.side.Mover.{Mover}
use Rattle.lines.specs.Reading.{State, at, Reading, then, done, ◌>>=◌, fits}
use Rattle.lines.proofs.Fields.{ok_same, err_ok, err_same}
use Rattle.job.specs.declared.counts.Counts.{Counts}
use Rattle.job.specs.declared.account.Account.{Account}
use Rattle.job.specs.Grammar.{Part, Job}
use Rattle.job.specs.Reads.{side_line, first_line, parts_lines, moves_lines, job_lines, ended, read_job}
use Rattle.job.specs.Account.{counted, counts_of, account, told}

-- what is left of a job after its side, its first mover and its parts
abbrev with_moves : Side → Mover → List Part → Reading Job
with_moves side first parts = ◌>>=◌ moves_lines (λ moves. done (record { side = side; first = first; parts = parts; moves = moves }))

abbrev with_parts : ℕ → ℕ → Side → Mover → Reading Job
with_parts lent room side first = ◌>>=◌ (parts_lines lent room) (with_moves side first)

abbrev with_first : ℕ → ℕ → Side → Reading Job
with_first lent room side = ◌>>=◌ first_line (with_parts lent room side)

stops : {A : Type 0} (p : Reading A) (f : A → Reading Job) (s : State) (d : Fault) → Err d ≡ p s → Err d ≡ counts_of (◌>>=◌ p f) s
stops p f s d e = ap (λ r. then {A = Job × State} {B = Counts × State} (then r (λ q. f q.0 q.1)) (λ q. Ok (record { parts = length q.0.parts; moves = length q.0.moves }, q.1))) e

goes : {A : Type 0} (p : Reading A) (f : A → Reading Job) (s : State) (a : A) (t : State) → Ok (a, t) ≡ p s → counts_of (f a) t ≡ counts_of (◌>>=◌ p f) s
goes p f s a t e = ap (λ r. then {A = Job × State} {B = Counts × State} (then r (λ q. f q.0 q.1)) (λ q. Ok (record { parts = length q.0.parts; moves = length q.0.moves }, q.1))) e

-- a list of which only the length is known
counted_ok : {A : Type 0} (p : Reading (List A)) (s : State) (n : ℕ) (t : State) → Ok (n, t) ≡ counted length p s → (xs : List A) × (length xs ≡ n) × (Ok (xs, t) ≡ p s)
counted_ok {A} p s n t e = go (p s) e
  where
    go : (r : Result (List A × State) Fault) → Ok (n, t) ≡ then {B = ℕ × State} r (λ q. Ok (length q.0, q.1)) → (xs : List A) × (length xs ≡ n) × (Ok (xs, t) ≡ r)
    go (Ok (xs, u)) e = let q = ok_same e in (xs, sym (ap (λ w. w.0) q), ap (λ w. Ok (xs, w.1)) q)
    go (Err d) e = err_ok (sym e)

counted_err : {A : Type 0} (p : Reading (List A)) (s : State) (d : Fault) → Err d ≡ counted length p s → Err d ≡ p s
counted_err {A} p s d e = go (p s) e
  where
    go : (r : Result (List A × State) Fault) → Err d ≡ then {B = ℕ × State} r (λ q. Ok (length q.0, q.1)) → Err d ≡ r
    go (Ok q) e = err_ok e
    go (Err c) e = ap Err (err_same e)

module _ (lent room : ℕ) (s : State) where
  pub side_stops : (d : Fault) → Err d ≡ side_line s → Err d ≡ counts_of (job_lines lent room) s
  unfolding job_lines
  side_stops d e = stops side_line (with_first lent room) s d e

  pub first_stops : (a : Side) (t : State) (d : Fault) → Ok (a, t) ≡ side_line s → Err d ≡ first_line t → Err d ≡ counts_of (job_lines lent room) s
  unfolding job_lines
  first_stops a t d e f = stops first_line (with_parts lent room a) t d f ∙ goes side_line (with_first lent room) s a t e

  pub parts_stop : (a : Side) (t : State) (b : Mover) (u : State) (d : Fault) → Ok (a, t) ≡ side_line s → Ok (b, u) ≡ first_line t → Err d ≡ counted length (parts_lines lent room) u → Err d ≡ counts_of (job_lines lent room) s
  unfolding job_lines
  parts_stop a t b u d e f g = stops (parts_lines lent room) (with_moves a b) u d (counted_err (parts_lines lent room) u d g) ∙ (goes first_line (with_parts lent room a) t b u f ∙ goes side_line (with_first lent room) s a t e)

  parts_go : (a : Side) (t : State) (b : Mover) (u : State) (ps : List Part) (v : State) → Ok (a, t) ≡ side_line s → Ok (b, u) ≡ first_line t → Ok (ps, v) ≡ parts_lines lent room u → counts_of (with_moves a b ps) v ≡ counts_of (job_lines lent room) s
  unfolding job_lines
  parts_go a t b u ps v e f g = goes (parts_lines lent room) (with_moves a b) u ps v g ∙ (goes first_line (with_parts lent room a) t b u f ∙ goes side_line (with_first lent room) s a t e)

  pub moves_stop : (a : Side) (t : State) (b : Mover) (u : State) (n : ℕ) (v : State) (d : Fault) → Ok (a, t) ≡ side_line s → Ok (b, u) ≡ first_line t → Ok (n, v) ≡ counted length (parts_lines lent room) u → Err d ≡ counted length moves_lines v → Err d ≡ counts_of (job_lines lent room) s
  moves_stop a t b u n v d e f g h =
      let w = counted_ok (parts_lines lent room) u n v g in
      stops moves_lines (λ moves. done (record { side = a; first = b; parts = w.0; moves = moves })) v d (counted_err moves_lines v d h) ∙ parts_go a t b u w.0 v e f w.2

  pub all_read : (a : Side) (t : State) (b : Mover) (u : State) (n : ℕ) (v : State) (m : ℕ) (x : State) → Ok (a, t) ≡ side_line s → Ok (b, u) ≡ first_line t → Ok (n, v) ≡ counted length (parts_lines lent room) u → Ok (m, x) ≡ counted length moves_lines v → Ok (record { parts = n; moves = m }, x) ≡ counts_of (job_lines lent room) s
  all_read a t b u n v m x e f g h =
      let w = counted_ok (parts_lines lent room) u n v g in
      let z = counted_ok moves_lines v m x h in
      (λ i. Ok (record { parts = sym w.1 i; moves = sym z.1 i }, x))
      ∙ (goes moves_lines (λ moves. done (record { side = a; first = b; parts = w.0; moves = moves })) v z.0 x z.2 ∙ parts_go a t b u w.0 v e f w.2)

-- the whole text
counts_ok : (p : Reading Job) (s : State) (c : Counts) (t : State) → Ok (c, t) ≡ counts_of p s → (j : Job) × (Ok (j, t) ≡ p s) × (length j.parts ≡ c.parts) × (length j.moves ≡ c.moves)
counts_ok p s c t e = go (p s) e
  where
    go : (r : Result (Job × State) Fault) → Ok (c, t) ≡ then {B = Counts × State} r (λ q. Ok (record { parts = length q.0.parts; moves = length q.0.moves }, q.1)) → (j : Job) × (Ok (j, t) ≡ r) × (length j.parts ≡ c.parts) × (length j.moves ≡ c.moves)
    go (Ok (j, u)) e = let q = ok_same e in (j, ap (λ w. Ok (j, w.1)) q, sym (ap (λ w. w.0.parts) q), sym (ap (λ w. w.0.moves) q))
    go (Err d) e = err_ok (sym e)

counts_err : (p : Reading Job) (s : State) (d : Fault) → Err d ≡ counts_of p s → Err d ≡ p s
counts_err p s d e = go (p s) e
  where
    go : (r : Result (Job × State) Fault) → Err d ≡ then {B = Counts × State} r (λ q. Ok (record { parts = length q.0.parts; moves = length q.0.moves }, q.1)) → Err d ≡ r
    go (Ok q) e = err_ok e
    go (Err c) e = ap Err (err_same e)

module _ (lent room : ℕ) (bytes : List ℕ) where
  pub length_stops : (d : Fault) → Err d ≡ fits bytes → Err d ≡ told (read_job lent room bytes)
  unfolding read_job
  length_stops d e = ap (λ r. then {A = Job × ℕ} {B = Account} (then {A = Unit {0}} r (λ u. then (job_lines lent room (at bytes 1)) ended)) (λ q. Ok (account q))) e

  text_is : Ok tt ≡ fits bytes → told (read_job lent room bytes) ≡ then {A = Job × ℕ} {B = Account} (then (job_lines lent room (at bytes 1)) ended) (λ q. Ok (account q))
  unfolding read_job
  text_is e = ap (λ r. then {A = Job × ℕ} {B = Account} (then {A = Unit {0}} r (λ u. then (job_lines lent room (at bytes 1)) ended)) (λ q. Ok (account q))) (sym e)

  pub lines_stop : (d : Fault) → Ok tt ≡ fits bytes → Err d ≡ counts_of (job_lines lent room) (at bytes 1) → Err d ≡ told (read_job lent room bytes)
  lines_stop d e f =
      ap (λ r. then {A = Job × ℕ} {B = Account} (then r ended) (λ q. Ok (account q))) (counts_err (job_lines lent room) (at bytes 1) d f) ∙ sym (text_is e)

  pub bytes_left : (c : Counts) (t : State) → Ok tt ≡ fits bytes → Ok (c, t) ≡ counts_of (job_lines lent room) (at bytes 1) → 0 < length t.rest → Err (fault BytesAfterJob (t.line - 1)) ≡ told (read_job lent room bytes)
  bytes_left c t e f h =
      let w = counts_ok (job_lines lent room) (at bytes 1) c t f in
      go w.0 t.rest t.line h ∙ (ap (λ r. then {A = Job × ℕ} {B = Account} (then r ended) (λ q. Ok (account q))) w.1 ∙ sym (text_is e))
    where
      go : (j : Job) (r : List ℕ) (n : ℕ) → 0 < length r → Err (fault BytesAfterJob (n - 1)) ≡ then {B = Account} (ended (j, at r n)) (λ q. Ok (account q))
      go j [] n h = absurd (omega arith)
      go j (x ∷ xs) n h = refl

  pub whole_told : (c : Counts) (t : State) → Ok tt ≡ fits bytes → Ok (c, t) ≡ counts_of (job_lines lent room) (at bytes 1) → length t.rest ≡ 0 → Ok (record { lines = t.line - 1; parts = c.parts; moves = c.moves }) ≡ told (read_job lent room bytes)
  whole_told c t e f h =
      let w = counts_ok (job_lines lent room) (at bytes 1) c t f in
      (λ i. Ok (record { lines = t.line - 1; parts = sym w.2 i; moves = sym w.3 i }))
      ∙ (go w.0 t.rest t.line h ∙ (ap (λ r. then {A = Job × ℕ} {B = Account} (then r ended) (λ q. Ok (account q))) w.1 ∙ sym (text_is e)))
    where
      go : (j : Job) (r : List ℕ) (n : ℕ) → length r ≡ 0 → Ok (account (j, n - 1)) ≡ then {B = Account} (ended (j, at r n)) (λ q. Ok (account q))
      go j [] n h = refl
      go j (x ∷ xs) n h = absurd (omega arith)
