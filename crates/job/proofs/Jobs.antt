-- A whole job is read as it is written.
use Rattle.std.proofs.Common.{◌≡◌, ℕ, ◌-◌, ◌≤◌, Bool, true, false, cond, leb, List, [], ◌∷◌, ◌++◌, length, Ok, Err, sym, refl, ap, ◌∙◌, subst, append-nil}
use Rattle.std.proofs.lemmas.Bool.{leb-true, le-leb, cond-true}
use Rattle.terms.specs.declared.fault.Refusal.TheVariants.{JobTooLong}
use Rattle.terms.specs.Refusals.{fault}
use Rattle.numbers.specs.Numbers.{upto}
use Rattle.lines.specs.declared.key.Key.TheVariants as key
use Rattle.lines.specs.Reading.{State, at, then, longest}
use Rattle.lines.specs.Lines.{line, entry, form}
use Rattle.lines.proofs.Fields.{ok_same, err_ok}
use Rattle.lines.proofs.Laws.{Reads, then_ok, then_run, map_reads, seq_reads, done_reads, reads_as, counted}
use Rattle.lines.proofs.Counts.{count_reads}
use Rattle.tree_text.specs.Rows.{Row, tree_lines, tree_text, GoodTree}
use Rattle.tree_text.proofs.Exact.{tree_reads}
use Rattle.map_text.specs.Maps.{Map, read_map, map_text, GoodMap}
use Rattle.map_text.proofs.Maps.{map_reads as map-law}
use Rattle.job.specs.declared.kind.Kind.{Kind}
use Rattle.job.specs.declared.kind.Kind.TheVariants as kinds
use Rattle.job.specs.Grammar.{Part, tree, snort, kind, body_text, part_text, parts_text, moves_text, side_text, first_text, Job, job_text, part_limit, GoodPart, GoodParts, GoodMoves, GoodJob}
use Rattle.job.specs.Values.{kind_of}
use Rattle.job.specs.Reads.{side_line, first_line, body_lines, part_lines, parts_lines, moves_lines, job_lines, ended, read_job}
use Rattle.job.specs.Law.{Says, JobExact}
use Rattle.job.proofs.Heads.{Any, side_reads, first_reads, kind_reads, moves_reads}

module _ (lent room : ℕ) where
  abbrev OfKind : Kind → Part → Type 0
  OfKind kinds.Tree (tree rs) = GoodTree lent room rs
  OfKind kinds.Tree (snort m) = ⊥
  OfKind kinds.Snort (tree rs) = ⊥
  OfKind kinds.Snort (snort m) = GoodMap m

  from_tree : (b : Part) → OfKind kinds.Tree b → (rs : List Row) × (b ≡ tree rs) × GoodTree lent room rs
  from_tree (tree rs) g = (rs, refl, g)
  from_tree (snort m) g = absurd g

  from_snort : (b : Part) → OfKind kinds.Snort b → (m : Map) × (b ≡ snort m) × GoodMap m
  from_snort (tree rs) g = absurd g
  from_snort (snort m) g = (m, refl, g)

  body_reads : (k : Kind) → Reads (body_lines lent room k) body_text (OfKind k)
  body_reads kinds.Tree = map_reads tree (tree_lines lent room) tree_text (GoodTree lent room) body_text (OfKind kinds.Tree) (λ rs. refl) (λ rs g. g) from_tree (tree_reads lent room)
  body_reads kinds.Snort = map_reads snort read_map map_text GoodMap body_text (OfKind kinds.Snort) (λ m. refl) (λ m g. g) from_snort map-law

  of_kind : (k : Kind) (b : Part) → OfKind k b → (kind b ≡ k) × GoodPart lent room b
  of_kind kinds.Tree (tree rs) g = (refl, g)
  of_kind kinds.Tree (snort m) g = absurd g
  of_kind kinds.Snort (tree rs) g = absurd g
  of_kind kinds.Snort (snort m) g = (refl, g)

  to_kind : (b : Part) → GoodPart lent room b → OfKind (kind b) b
  to_kind (tree rs) g = g
  to_kind (snort m) g = g

  part_reads : Reads (part_lines lent room) part_text (GoodPart lent room)
  unfolding part_lines part_text
  part_reads = reads_as (part_lines lent room) _ part_text _ (GoodPart lent room) (λ b. refl) (λ b g. g.1) (λ b g. (tt, g))
      (seq_reads kind (entry key.Rules (form kind_of)) _ Any (body_lines lent room) body_text OfKind (GoodPart lent room)
      kind_reads
      body_reads of_kind to_kind)

  pub parts_reads : Reads (parts_lines lent room) parts_text (GoodParts lent room)
  unfolding parts_lines parts_text
  parts_reads = counted (entry key.Parts (form (upto part_limit))) _ (λ n. n ≤ part_limit) (count_reads key.Parts part_limit) (part_lines lent room) part_text (GoodPart lent room) part_reads

  lines_seq : Reads (job_lines lent room) (λ j. line key.Side (side_text j.side) ++ (line key.First (first_text j.first) ++ (parts_text j.parts ++ (moves_text j.moves ++ [])))) (λ j. Any j.side × (Any j.first × (GoodParts lent room j.parts × GoodMoves j.moves)))
  unfolding job_lines
  lines_seq =
      seq_reads (λ j. j.side) side_line _ Any _ _ (λ s j. Any j.first × (GoodParts lent room j.parts × (GoodMoves j.moves × (j.side ≡ s)))) _ side_reads
      (λ s. seq_reads (λ j. j.first) first_line _ Any _ _ (λ f j. GoodParts lent room j.parts × (GoodMoves j.moves × ((j.first ≡ f) × (j.side ≡ s)))) (λ j. GoodParts lent room j.parts × (GoodMoves j.moves × (j.side ≡ s))) first_reads
      (λ f. seq_reads (λ j. j.parts) (parts_lines lent room) parts_text (GoodParts lent room) _ _ (λ p j. GoodMoves j.moves × ((j.parts ≡ p) × ((j.first ≡ f) × (j.side ≡ s)))) (λ j. GoodMoves j.moves × ((j.first ≡ f) × (j.side ≡ s))) parts_reads
      (λ p. seq_reads (λ j. j.moves) moves_lines moves_text GoodMoves _ (λ j. []) (λ m j. j ≡ record { side = s; first = f; parts = p; moves = m }) (λ j. (j.parts ≡ p) × ((j.first ≡ f) × (j.side ≡ s))) moves_reads
      (λ m. done_reads (record { side = s; first = f; parts = p; moves = m }))
      (λ m j e. (ap (λ k. k.moves) e, (ap (λ k. k.parts) e, (ap (λ k. k.first) e, ap (λ k. k.side) e))))
      (λ j h. λ i. record { side = h.1.1 i; first = h.1.0 i; parts = h.0 i; moves = j.moves }))
      (λ p j h. (h.1.0, (h.0, h.1.1)))
      (λ j h. (h.0, (refl, h.1))))
      (λ f j h. (h.1.1.0, (h.0, (h.1.0, h.1.1.1))))
      (λ j h. (h.0, (h.1.0, (refl, h.1.1)))))
      (λ s j h. (h.1.1.1, (h.0, (h.1.0, h.1.1.0))))
      (λ j h. (h.0, (h.1.0, (h.1.1, refl))))

  job_reads : Reads (job_lines lent room) job_text (GoodJob lent room)
  unfolding job_text
  job_reads = reads_as (job_lines lent room) _ job_text _ (GoodJob lent room) (λ j. ap (λ x. line key.Side (side_text j.side) ++ (line key.First (first_text j.first) ++ (parts_text j.parts ++ x))) (append-nil (moves_text j.moves))) (λ j g. g.1.1) (λ j g. (tt, (tt, g))) lines_seq

ended_ok : (j k : Job) (s : State) (n : ℕ) → ended (j, s) ≡ Ok (k, n) → (j ≡ k) × (s.rest ≡ [])
ended_ok j k s n e = go s.rest s.line e
  where
    go : (r : List ℕ) (m : ℕ) → ended (j, at r m) ≡ Ok (k, n) → (j ≡ k) × (r ≡ [])
    go [] m e = (ap (λ p. p.0) (ok_same e), refl)
    go (x ∷ xs) m e = err_ok e

pub job_exact : JobExact
unfolding read_job
job_exact lent room bs j = ((λ n. go n (leb (length bs) longest) refl), back)
  where
    sound : (n : ℕ) → then (job_lines lent room (at bs 1)) ended ≡ Ok (j, n) → GoodJob lent room j × (bs ≡ job_text j)
    sound n e =
        let f = then_ok (job_lines lent room (at bs 1)) ended (j, n) e in
        let q = ended_ok f.0.0 j f.0.1 n f.2 in
        let h = (job_reads lent room).sound (at bs 1) f.0.0 f.0.1 f.1 in
        (subst (GoodJob lent room) q.0 h.0, h.1 ∙ ((λ i. job_text (q.0 i) ++ q.1 i) ∙ append-nil (job_text j)))

    go : (n : ℕ) (t : Bool) → leb (length bs) longest ≡ t → then {A = Unit {0}} (cond t (Ok tt) (Err (fault JobTooLong 0))) (λ u. then (job_lines lent room (at bs 1)) ended) ≡ Ok (j, n) → Says lent room bs j
    go n true t e = let h = sound n e in (leb-true (length bs) longest t, h.0, h.1)
    go n false t e = err_ok e

    back : Says lent room bs j → (n : ℕ) × (read_job lent room bs ≡ Ok (j, n))
    back g =
        let h = (job_reads lent room).complete j [] 1 g.1 in (
          h.0 - 1,
          ap (λ q. then {A = Unit {0}} q (λ u. then (job_lines lent room (at bs 1)) ended)) (cond-true (leb (length bs) longest) _ _ (le-leb (length bs) longest g.0))
              ∙ (ap (λ x. then (job_lines lent room (at x 1)) ended) (g.2 ∙ sym (append-nil (job_text j))) ∙ then_run _ _ _ h.1),
        )
