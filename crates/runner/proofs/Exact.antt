-- A job runs to its end exactly where its text is that of a legal job.
use Rattle.std.proofs.Common.{◌≡◌, ℕ, ◌-◌, List, [], ◌∷◌, map, Ok, sym, refl, ap, ◌∙◌, subst}
use Rattle.std.specs.List.{AllByRecursion}
use Rattle.stories.specs.Game.{opening}
use Rattle.stories.specs.Stories.{Meant, opens}
use Rattle.lines.specs.Reading.{State, at, fits}
use Rattle.lines.proofs.Fields.{ok_same, err_ok}
use Rattle.lines.proofs.Laws.{then_ok, then_run}
use Rattle.job.specs.Grammar.{Part, Job, GoodPart}
use Rattle.job.specs.Reads.{side_line, first_line, parts_lines, moves_lines, job_lines, ended, read_job}
use Rattle.job.specs.Law.{Says}
use Rattle.job.proofs.Jobs.{parts_reads, job_exact}
use Rattle.meanings.specs.Meaning.{meaning}
use Rattle.meanings.proofs.Parts.{part_lawful}
use Rattle.runner.specs.Runs.{Outcome, seat_parts, play_moves, run_lines, finished, run_job}
use Rattle.runner.specs.Stories.{meanings, Legal, outcome}
use Rattle.runner.specs.Law.{Runs, RunExact}
use Rattle.runner.proofs.Seatings.{led_seated, parts_seat}
use Rattle.runner.proofs.Plays.{moves_play}

-- ---- the end
finished_ok : (x y : Outcome) (s : State) → finished (x, s) ≡ Ok y → (x ≡ y) × (s.rest ≡ [])
finished_ok x y s e = go s.rest s.line e
  where
    go : (r : List ℕ) (n : ℕ) → finished (x, at r n) ≡ Ok y → (x ≡ y) × (r ≡ [])
    go [] n e = (ok_same e, refl)
    go (b ∷ bs) n e = err_ok e

ended_run : (j : Job) (s : State) → s.rest ≡ [] → ended (j, s) ≡ Ok (j, s.line - 1)
ended_run j s e = ap (λ r. ended (j, at r s.line)) e

ended_ok : (j k : Job) (s : State) (n : ℕ) → ended (j, s) ≡ Ok (k, n) → (j ≡ k) × (s.rest ≡ [])
ended_ok j k s n e = go s.rest s.line e
  where
    go : (r : List ℕ) (m : ℕ) → ended (j, at r m) ≡ Ok (k, n) → (j ≡ k) × (r ≡ [])
    go [] m e = (ap (λ p. p.0) (ok_same e), refl)
    go (x ∷ xs) m e = err_ok e

finished_run : (x : Outcome) (s : State) → s.rest ≡ [] → finished (x, s) ≡ Ok x
finished_run x s e = ap (λ r. finished (x, at r s.line)) e

module _ (lent room : ℕ) where
  meant : (ps : List Part) → AllByRecursion (GoodPart lent room) ps → Meant (map meaning ps)
  meant [] g = tt
  meant (p ∷ ps) g = (part_lawful lent room p g.0, meant ps g.1)

  -- ---- all lines
  lines_sound : (s : State) (x : Outcome) (t : State) → run_lines lent room s ≡ Ok (x, t)
      → (j : Job) × (l : Meant (meanings j)) × (job_lines lent room s ≡ Ok (j, t)) × Legal j l × (x ≡ outcome j l)
  unfolding run_lines job_lines
  lines_sound s x t e =
      let a = then_ok (side_line s) _ _ e in
      let b = then_ok (first_line a.0.1) _ _ a.2 in
      let c = then_ok (seat_parts lent room b.0.1) _ _ b.2 in
      let d = then_ok (play_moves (opening c.0.0 a.0.0 b.0.0) c.0.1) _ _ c.2 in
      let q = ok_same d.2 in
      let p = (parts_seat lent room).sound b.0.1 c.0.0 c.0.1 c.1 in
      let l = meant p.0 ((parts_reads lent room).sound b.0.1 p.0 c.0.1 p.1).0.1 in
      let held = p.3 ∙ led_seated [] p.0 in
      let m = (moves_play (opens (map meaning p.0) l a.0.0 b.0.0)).sound c.0.1 d.0.0 d.0.1 (ap (λ ts. play_moves (opening ts a.0.0 b.0.0) c.0.1) (sym held) ∙ d.1) in
      let j : Job = record { side = a.0.0; first = b.0.0; parts = p.0; moves = m.0 } in (
        j,
        l,
        then_run _ _ _ a.1 ∙ (then_run _ _ _ b.1 ∙ (then_run _ _ _ p.1 ∙ (then_run _ _ _ m.1 ∙ ap (λ z. Ok (j, z.1)) q))),
        record { parts = p.2; moves = m.2 },
        sym (ap (λ z. z.0) q) ∙ (λ i. record { trees = held i; game = m.3 i }),
      )

  lines_run : (s : State) (j : Job) (t : State) (l : Meant (meanings j)) → job_lines lent room s ≡ Ok (j, t) → Legal j l → run_lines lent room s ≡ Ok (outcome j l, t)
  unfolding run_lines job_lines
  lines_run s j t l e g =
      let a = then_ok (side_line s) _ _ e in
      let b = then_ok (first_line a.0.1) _ _ a.2 in
      let c = then_ok (parts_lines lent room b.0.1) _ _ b.2 in
      let d = then_ok (moves_lines c.0.1) _ _ c.2 in
      let q = ok_same d.2 in
      subst (λ z. (l : Meant (meanings z.0)) → Legal z.0 l → run_lines lent room s ≡ Ok (outcome z.0 l, z.1)) q
      (λ l g. then_run _ _ _ a.1 ∙ (then_run _ _ _ b.1 ∙ (then_run _ _ _ ((parts_seat lent room).complete b.0.1 c.0.0 c.0.1 c.1 g.parts ∙ ap (λ ts. Ok (ts, c.0.1)) (led_seated [] c.0.0)) ∙ then_run _ _ _ ((moves_play (opens (map meaning c.0.0) l a.0.0 b.0.0)).complete c.0.1 d.0.0 d.0.1 d.1 g.moves)))) l g

pub run_exact : RunExact
unfolding run_job read_job
run_exact lent room bytes = record { lawful = λ j g. meant lent room j.parts g.1.0.1; sound = sound; complete = complete }
  where
    sound : (x : Outcome) → run_job lent room bytes ≡ Ok x → Runs lent room bytes x
    sound x e =
        let f = then_ok (fits bytes) _ _ e in
        let g = then_ok (run_lines lent room (at bytes 1)) finished x f.2 in
        let q = finished_ok g.0.0 x g.0.1 g.2 in
        let h = lines_sound lent room (at bytes 1) g.0.0 g.0.1 g.1 in
        record {
          job = h.0;
          says = (job_exact lent room bytes h.0).0 (g.0.1.line - 1) (then_run _ _ _ f.1 ∙ (then_run _ _ _ h.2 ∙ ended_run h.0 g.0.1 q.1));
          meant = h.1;
          legal = h.3;
          leads = sym q.0 ∙ h.4;
        }

    complete : (j : Job) (l : Meant (meanings j)) → Says lent room bytes j → Legal j l → run_job lent room bytes ≡ Ok (outcome j l)
    complete j l says g =
        let r = (job_exact lent room bytes j).1 says in
        let f = then_ok (fits bytes) _ _ r.1 in
        let h = then_ok (job_lines lent room (at bytes 1)) ended (j, r.0) f.2 in
        let q = ended_ok h.0.0 j h.0.1 r.0 h.2 in
        then_run _ _ _ f.1
        ∙ (then_run _ _ _ (lines_run lent room (at bytes 1) j h.0.1 l (h.1 ∙ ap (λ k. Ok (k, h.0.1)) q.0) g) ∙ finished_run (outcome j l) h.0.1 q.1)
