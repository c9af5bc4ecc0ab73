-- A function from tags, changed at one of them, and what stays of a tag when others move.
use Rattle.std.proofs.Common.{◌≡◌, ◌≢◌, ℕ, ℤ, List, sym, refl, ◌∙◌, subst}
use Rattle.std.specs.Prelude.{Option, Some}
use mathlib.Core.Option.{some}
use native.Mathlib.Decide.{ℕ_discrete}
use lib.ListN.{get_elem?}
use Rattle.tag_table.specs.Rule.{Phase, free, held, ready, taken, done, Home, TagState, InPhase, job, progress_of}
use Rattle.bus_model.specs.declared.transfer.Started.{Started}
use Rattle.tag_table.specs.declared.view.EngineView.{EngineView}
use Rattle.tag_table.specs.declared.view.View.{View}
use Rattle.tag_table.specs.declared.view.View.TheVariants.{Engine}

abbrev pick : {P : Type 0} → Dec P → TagState → TagState → TagState
pick (yes _) a b = a
pick (no _) a b = b

pub put : (ℕ → TagState) → ℕ → TagState → ℕ → TagState
put f t x u = pick (ℕ_discrete u t) x (f u)

-- what holds of the new state at t, and of each other state, holds after
pub at_put : (f : ℕ → TagState) (t : ℕ) (x : TagState) (F : ℕ → TagState → Type 0) (u : ℕ) → F t x → (u ≢ t → F u (f u)) → F u (put f t x u)
unfolding put
at_put f t x F u here other = go (ℕ_discrete u t)
  where
    go : (d : Dec (u ≡ t)) → F u (pick d x (f u))
    go (yes e) = subst (λ (k : ℕ). F k x) (sym e) here
    go (no n) = other n

pub put_here : (f : ℕ → TagState) (t : ℕ) (x : TagState) → put f t x t ≡ x
put_here f t x = at_put f t x (λ q y. q ≡ t → y ≡ x) t (λ _. refl) (λ n. absurd (n refl)) refl

pub put_else : (f : ℕ → TagState) (t : ℕ) (x : TagState) (u : ℕ) → u ≢ t → put f t x u ≡ f u
put_else f t x u ne = at_put f t x (λ q y. q ≢ t → y ≡ f q) u (λ n. absurd (n refl)) (λ _ _. refl) ne

pub progress_here : (f : ℕ → TagState) (t : ℕ) (x : TagState) → progress_of (put f t x) t ≡ record { moved = x.moved; cells = x.cells }
progress_here f t x = λ k. record { moved = (put_here f t x k).moved; cells = (put_here f t x k).cells }

pub progress_else : (f : ℕ → TagState) (t : ℕ) (x : TagState) (u : ℕ) → u ≢ t → progress_of (put f t x) u ≡ progress_of f u
progress_else f t x u ne = λ k. record { moved = (put_else f t x u ne k).moved; cells = (put_else f t x u ne k).cells }

-- a tag that is not touched
pub stays : (views views' : List View) (holder holder' : Option ℕ) (t word word' : ℕ) (home home' : Home) (has has' : Option Started) (cells : List ℤ) (moved : ℕ) (ph : Phase)
    → word' ≡ word → home' ≡ home → has' ≡ has → (ph ≡ held → holder ≡ Some t → holder' ≡ Some t)
    → ((j : ℕ) (st : Started) (e : EngineView) → ph ≡ taken j → get_elem? views j ≡ some (Engine e) → e.work ≡ Some (job t st.transfer cells moved) → get_elem? views' j ≡ some (Engine e))
    → InPhase views holder t word home has cells moved ph → InPhase views' holder' t word' home' has' cells moved ph
stays views views' holder holder' t word word' home home' has has' cells moved free w h s o v x = (w ∙ x.0, s ∙ x.1, h ∙ x.2)
stays views views' holder holder' t word word' home home' has has' cells moved held w h s o v x = (w ∙ x.0, s ∙ x.1, o refl x.2)
stays views views' holder holder' t word word' home home' has has' cells moved ready w h s o v x =
    let y = x.1.3 in (w ∙ x.0, (x.1.0, s ∙ x.1.1, x.1.2, (y.0, h ∙ y.1, y.2, y.3, y.4)))
stays views views' holder holder' t word word' home home' has has' cells moved (taken j) w h s o v x =
    let y = x.1.2 in (w ∙ x.0, (x.1.0, s ∙ x.1.1, (y.0, v j x.1.0 y.0 refl y.1 y.2, y.2)))
stays views views' holder holder' t word word' home home' has has' cells moved done w h s o v x =
    let y = x.1.3 in (w ∙ x.0, (x.1.0, s ∙ x.1.1, x.1.2, (y.0, h ∙ y.1, y.2, y.3, y.4)))
