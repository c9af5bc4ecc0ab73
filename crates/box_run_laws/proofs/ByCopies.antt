-- Copy loops bring the box into fast memory and put it back.
use Rattle.std.proofs.Common.{◌≡◌, ◌≢◌, ℕ, suc, ◌<◌, ℤ, List, [], ◌∷◌, ◌++◌, refl, sym, ap, ◌∙◌, subst, arith, Bool, true, false}
use Rattle.std.specs.Prelude.{if◌then◌else◌}
use Rattle.affine_ast.specs.declared.name.Name.{Name}
use Rattle.affine_ast.specs.declared.types.Element.{Element}
use Rattle.affine_ast.specs.Names.{same_name}
use Rattle.affine_ast.proofs.Names.{same_name-eq}
use Rattle.direct_meaning.specs.Actions.{half_cells}
use Rattle.direct_meaning.specs.Action.{Action, Allocates, Releases}
use Rattle.direct_meaning.specs.Direct.{Outcome, End, then_do, folded}
use Rattle.direct_meaning.proofs.Laws.{folded-append, folded-cons, folded-nil}
use Rattle.prompt_semantics.specs.Device.{Device, allocated, released, has_away}
use Rattle.box_run_laws.specs.Roomy.{roomy_step}
use Rattle.box_run_laws.specs.Layouts.{Numbering, Renumbers}
use Rattle.box_run_laws.specs.Owned.{Related}
use Rattle.box_run_laws.specs.Boxes.{Half, boxed}
use Rattle.box_run_laws.specs.Runs.{Anything}
use Rattle.box_run_laws.specs.Templates.{copies_in, copies_out, by_copies}
use Rattle.box_run_laws.proofs.Boxes.{all_allowed, opened, closed_kept, closed_written, PutBack}
use Rattle.box_run_laws.proofs.Copies.{copy_in, copy_out, CopiedIn, CopiedOut}
use Rattle.box_run_laws.proofs.Halves.{half_here, none_away, box_loads, box_stores, takes, gives_back, fresh_long, Filled, filled_opens, fresh_opens}
use Rattle.box_run_laws.proofs.Parts.{Apart, Opens, Closes}

-- a name of the text is none of the template's
apart_own : (own : Name → Bool) (a b : Name) → own a ≡ false → own b ≡ true → same_name a b ≡ false
apart_own own a b p q = by_case (same_name a b) refl
  where
    by_case : (t : Bool) → same_name a b ≡ t → same_name a b ≡ false
    by_case true e = let k : false ≡ true = sym p ∙ ap own (same_name-eq a b e) ∙ q in cc
    by_case false e = e

module _ (own : Name → Bool) (nu : Numbering) (is : Renumbers nu) (b : Half) (total : ℕ) (new : (n : ℕ) → nu.fasts n ≢ b.number) (filler : ℤ)
    (element : Element) (sizes : List ℕ) (long : half_cells sizes ≡ b.count) (v w : Name) (v_made : own v ≡ false) (w_made : own w ≡ false) where
  abbrev P : Action → Device → Outcome Device
  P = roomy_step filler

  abbrev taken : Device → Device
  taken y = allocated filler b.number element sizes (record y { actions = suc y.actions })

  filled : (place : ℕ → ℕ) (y z : Device) → CopiedIn filler place v b.number b.half 0 b.count y z → Filled own nu is b total new filler place y z
  filled place y z c = record {
    registers = λ x e. c.kept.registers x (apart_own own v x v_made e);
    slow = c.slow;
    others = c.others;
    copied = λ k l. c.copied k (omega arith) (omega (arith, l));
    long = c.long;
    outstanding = c.kept.outstanding;
  }

  put_back : (place : ℕ → ℕ) (y z : Device) → CopiedOut filler place w b.number b.half 0 b.count y z → PutBack own b place y z
  put_back place y z c = record {
    registers = λ x e. c.kept.registers x (apart_own own w x w_made e);
    halves = c.halves;
    copied = λ k l. c.copied k (omega arith) (omega (arith, l));
    others = λ p h. c.others p (λ i a l e. h i (omega (arith, l)) (sym e));
    long = c.long;
    outstanding = c.kept.outstanding;
  }

  pub opens : Opens own nu is total filler b new (by_copies b element sizes v w) Anything
  opens place box fits d y miss s = by b.reads refl
    where
      first : (more : List Action) → folded P (Allocates b.number element sizes ∷ more) y ≡ folded P more (taken y)
      first more = folded-cons P (Allocates b.number element sizes) more y ∙ takes own nu is b total new filler element sizes y (folded P more)

      by : (t : Bool) → b.reads ≡ t → (z : Device) × (folded P (Allocates b.number element sizes ∷ (if t then copies_in v b place else [])) y ≡ End z) × Related own nu (boxed b place) (boxed b place).unset total d z
      by true e =
          let room = fresh_long own nu is b total new filler element sizes (record y { actions = suc y.actions }) long in
          let c = copy_in filler place v b.number b.half b.count 0 (taken y) (λ i l. box_loads own nu is b total new filler place d.outstanding y.outstanding s.transfers miss i (omega (arith, l))) (half_here own nu is b total new filler d.outstanding y.outstanding s.transfers) (omega (arith, room)) in (
            c.0,
            first (copies_in v b place) ∙ c.1,
            opened b place [] [] own nu total new (boxed b place).unset d (record y { actions = suc y.actions }) c.0 miss s
                (filled_opens own nu is b total new filler element sizes long place (boxed b place).unset (record y { actions = suc y.actions }) c.0 (filled place (taken y) c.0 c.2)),
          )
      by false e = (
        taken y,
        first [] ∙ folded-nil P (taken y),
        opened b place [] [] own nu total new (boxed b place).unset d (record y { actions = suc y.actions }) (taken y) miss s
            (fresh_opens own nu is b total new filler element sizes long place box.distinct e (record y { actions = suc y.actions })),
      )

  pub closes : Closes own nu is total filler b new (by_copies b element sizes v w) Anything
  closes place box fits u d y set s = by b.writes refl
    where
      last : (z : Device) → has_away z.outstanding b.number ≡ false → folded P (Releases b.number element sizes ∷ []) z ≡ End (released element sizes (record z { actions = suc z.actions }))
      last z e = folded-cons P (Releases b.number element sizes) [] z ∙ gives_back own nu is b total new filler element sizes z (folded P []) e ∙ folded-nil P (released element sizes (record z { actions = suc z.actions }))

      by : (t : Bool) → b.writes ≡ t → (z : Device) × (folded P ((if t then copies_out w b place else []) ++ Releases b.number element sizes ∷ []) y ≡ End z) × Apart own nu is total filler d z
      by true e =
          let miss = all_allowed b place [] [] d.outstanding box.distinct s.clear in
          let c = copy_out filler place w b.number b.half b.count 0 y
          (λ i j l m. box.distinct i j (omega (arith, l)) (omega (arith, m)))
          (λ i l. box_stores own nu is b total new filler place d.outstanding y.outstanding s.transfers miss e i (omega (arith, l)))
          (half_here own nu is b total new filler d.outstanding y.outstanding s.transfers)
          (λ i l. subst (λ n. place i < n) (sym s.long) (box.inside i (omega (arith, l)))) in
          let z = c.0 in
          let idle : has_away z.outstanding b.number ≡ false = ap (λ l. has_away l b.number) c.2.kept.outstanding ∙ none_away own nu is b total new filler d.outstanding y.outstanding s.transfers in (
            released element sizes (record z { actions = suc z.actions }),
            folded-append P (copies_out w b place) (Releases b.number element sizes ∷ []) y ∙ ap (λ o. then_do o (folded P (Releases b.number element sizes ∷ []))) c.1 ∙ last z idle,
            closed_written b place [] [] own nu total box.distinct u d y z (set e) s (put_back place y z c.2),
          )
      by false e = (
        released element sizes (record y { actions = suc y.actions }),
        last y (none_away own nu is b total new filler d.outstanding y.outstanding s.transfers),
        closed_kept b place [] [] own nu total e u d y s,
      )
