-- The laws, from the first device on.
use Rattle.std.proofs.Common.{◌≡◌, ℕ, ℤ, pos, List, [], ◌∷◌, length, refl, sym, ap, ◌∙◌, subst, arith, Bool, false}
use Rattle.std.specs.Prelude.{Some, None}
use Rattle.std.proofs.lemmas.List.{ext_get_or}
use Rattle.affine_ast.specs.declared.name.Name.{Name}
use Rattle.affine_ast.specs.declared.image.Image.{Image}
use Rattle.bus_model.specs.declared.transfer.Transfer.{Transfer}
use Rattle.direct_meaning.specs.Direct.{Outcome, End, Fault, folded, State, first_state, direct_step}
use Rattle.direct_meaning.specs.Action.{Action}
use Rattle.prompt_semantics.specs.Device.{Device}
use Rattle.prompt_semantics.specs.Prompt.{first_device}
use Rattle.box_run_laws.specs.Roomy.{roomy_step}
use Rattle.box_run_laws.specs.Layouts.{Numbering, Renumbers, nowhere, Cell}
use Rattle.box_run_laws.specs.Owned.{Related, Ends}
use Rattle.box_run_laws.specs.Runs.{Run, Copying, Carrying, run_old, run_new, Anything, MeetsRun}
use Rattle.box_run_laws.specs.Templates.{by_copies, by_transfers, Carries}
use Rattle.box_run_laws.specs.Law.{SameEnd, PlacementsAgree, CapacityKept, Steps, last_of, Agrees, StagingAgrees}
use Rattle.box_run_laws.proofs.Parts.{Apart, parts_run, box_run}
use Rattle.box_run_laws.proofs.ByCopies as copies
use Rattle.box_run_laws.proofs.ByTransfers as transfers
use Rattle.box_run_laws.proofs.Capacity.{capacity_kept}
use Rattle.box_run_laws.proofs.Live.{live_known}
use Rattle.box_run_laws.proofs.Direct.{Holds, direct_run}
use Rattle.box_run_laws.specs.Parts.{original}

-- two related devices outside every box have one slow memory
pub same_end : (own : _) (nu : _) (total : ℕ) (a b : Outcome Device) → Ends (λ d y. Related own nu nowhere (λ p. false) total d y) a b → SameEnd a b
same_end own nu total (End d) (End y) s = ext_get_or (pos 0) d.state.slow y.state.slow (s.old_long ∙ sym s.long) (λ i l. s.slow i refl)
same_end own nu total (Fault i d) (Fault j y) s = s
same_end own nu total (End d) (Fault j y) s = absurd s
same_end own nu total (Fault i d) (End y) s = absurd s

pub begins : (own : _) (nu : _) (memory : Image) → Related own nu nowhere (λ p. false) (length (first_state memory).slow) (first_device memory) (first_device memory)
begins own nu memory = record {
  registers = λ n e. refl;
  slow = λ p e. refl;
  old_halves = λ n h. refl;
  room = λ p c e. absurd (never c e);
  cells = λ p c e f. absurd (never c e);
  old_long = refl;
  long = refl;
  transfers = (refl, refl);
  clear = tt;
  ahead = tt;
}
  where
    never : (c : Cell) → None ≡ Some c → ⊥
    never c e = cc

module _ (own : Name → Bool) (nu : Numbering) (is : Renumbers nu) (total : ℕ) (filler : ℤ) where
  -- one run of a placement's loop
  pub one_run : (x : Run) (ts : List Transfer) (d y : Device) → MeetsRun own nu total x ts → d.outstanding ≡ ts → Apart own nu is total filler d y
      → Ends (Apart own nu is total filler) (folded (roomy_step filler) (run_old x) d) (folded (roomy_step filler) (run_new nu x) y)
  one_run (Copying f v w x) ts d y m e s =
      box_run own nu is total filler f.half m.0.new (by_copies f.half f.element f.sizes v w) Anything
      (copies.opens own nu is f.half total m.0.new filler f.element f.sizes m.0.long v w m.1 m.2)
      (copies.closes own nu is f.half total m.0.new filler f.element f.sizes m.0.long v w m.1 m.2) x ts d y m.3 e s
  one_run (Carrying f c x) ts d y m e s =
      box_run own nu is total filler f.half m.0.new (by_transfers f.half f.element f.sizes c) (Carries f.half c)
      (transfers.opens own nu is f.half total m.0.new filler f.element f.sizes m.0.long c m.1)
      (transfers.closes own nu is f.half total m.0.new filler f.element f.sizes m.0.long c m.1) x ts d y m.2 e s

pub placements_agree : PlacementsAgree
placements_agree own nu is memory ps meets filler =
    let total = length (first_state memory).slow in
    same_end own nu total _ _
    (parts_run own nu is total filler Run run_old (run_new nu) (MeetsRun own nu total) (one_run own nu is total filler)
    ps [] (first_device memory) (first_device memory) meets refl (begins own nu memory))

pub kept : CapacityKept
kept = capacity_kept

-- ---- placements added one after the other
same_then : (a b c : Outcome Device) → SameEnd a b → SameEnd b c → SameEnd a c
same_then (End d) (End y) (End z) h k = h ∙ k
same_then (End d) (End y) (Fault j z) h k = absurd k
same_then (End d) (Fault j y) c h k = absurd h
same_then (Fault i d) (End y) c h k = absurd h
same_then (Fault i d) (Fault j y) (End z) h k = absurd k
same_then (Fault i d) (Fault j y) (Fault l z) h k = h ∙ k

same_itself : (a : Outcome Device) → SameEnd a a
same_itself (End d) = refl
same_itself (Fault k d) = refl

agrees_then : (a : Outcome State) (b c : Outcome Device) → Ends Holds a b → SameEnd b c → Agrees a c
agrees_then (End s) (End y) (End z) h k = ap (λ s. s.slow) h.0 ∙ k
agrees_then (End s) (End y) (Fault j z) h k = absurd k
agrees_then (End s) (Fault j y) c h k = absurd h
agrees_then (Fault i s) (End y) c h k = absurd h
agrees_then (Fault i s) (Fault j y) (End z) h k = absurd k
agrees_then (Fault i s) (Fault j y) (Fault l z) h k = h ∙ k

steps_agree : (memory : Image) (filler : ℤ) (xs : List Action) (more : List (List Action)) → Steps (length (first_state memory).slow) xs more
    → SameEnd (folded (roomy_step filler) xs (first_device memory)) (folded (roomy_step filler) (last_of xs more) (first_device memory))
steps_agree memory filler xs [] h = same_itself (folded (roomy_step filler) xs (first_device memory))
steps_agree memory filler xs (ys ∷ more) h =
    let s = h.0 in
    same_then (folded (roomy_step filler) xs (first_device memory)) (folded (roomy_step filler) ys (first_device memory)) (folded (roomy_step filler) (last_of ys more) (first_device memory))
    (subst (λ l. SameEnd (folded (roomy_step filler) l (first_device memory)) (folded (roomy_step filler) ys (first_device memory))) s.old_is
    (subst (λ l. SameEnd (folded (roomy_step filler) (original run_old s.parts) (first_device memory)) (folded (roomy_step filler) l (first_device memory))) s.new_is
    (placements_agree s.own s.nu s.renumbers memory s.parts s.meets filler)))
    (steps_agree memory filler ys more h.1)

pub staging_agrees : StagingAgrees
staging_agrees memory xs more plain steps filler capacity room =
    let last = last_of xs more in
    let d = first_device memory in
    let live = live_known filler last d in
    subst (Agrees (folded direct_step xs (first_state memory))) (sym (capacity_kept filler capacity last d (omega (arith, live, room))))
    (agrees_then (folded direct_step xs (first_state memory)) (folded (roomy_step filler) xs d) (folded (roomy_step filler) last d) (direct_run filler xs d plain refl) (steps_agree memory filler xs more steps))
