-- All placements, one after the other.
use Rattle.std.proofs.Common.{◌≡◌, ◌⊎◌, inl, inr, ℕ, suc, ◌≤◌, List, [], ◌∷◌, refl, ◌∙◌, arith, Bool, true, false}
use Rattle.std.specs.Prelude.{Option, Some, None, nat_le}
use Rattle.std.proofs.lemmas.Bool.{leb-true, le-leb}
use Rattle.affine_ast.specs.declared.name.Name.{Name}
use Rattle.affine_ast.specs.Names.{same_name}
use Rattle.affine_ast.specs.Nest.{Nest}
use Rattle.affine_ast.proofs.Names.{same_name-sym}
use Rattle.direct_meaning.specs.Action.{Home, SlowMemref, FastMemref, TagMemref}
use Rattle.direct_meaning.specs.Static.{Env}
use Rattle.placement_texts.specs.Labels.{Numbers, home_up}
use Rattle.placement_texts.specs.Own.{OwnNest, MadeNames}
use Rattle.boxes.specs.Every.{Every}
use Rattle.placement_texts.specs.Each.{Each}
use Rattle.placement_texts.specs.Template.{dim_sizes, Dimension, fast_name, tag_name, term_names}
use Rattle.placement_texts.specs.Regions.{OwnDims, Apart, Tidy}
use Rattle.placement_texts.specs.Mapped.{Together}
use Rattle.placement_texts.specs.OneTag.{InText, TagIsOne}
use Rattle.placement_texts.proofs.OneTag.{tags_together}
use Rattle.placement_texts.proofs.OneTagStaged.{one_tag_staged}
use Rattle.placement_texts.proofs.SpotRun.{each_both}
use Rattle.placement_texts.specs.Spots.{Disjoint, found, stage_one}
use Rattle.placement_texts.specs.Law.{Suits, Alike}
use Rattle.placement_texts.specs.Fold.{Step, numbers_at, IsSlow, there, Fits, AllFit, IsReady, Parted, AllParted, AllApart, AllRead, AllTextsAgree}
use Rattle.placement_texts.proofs.Follows.{apart_own}
use Rattle.placement_texts.proofs.FoundSpots.{staged_stays, found_disjoint}
use Rattle.placement_texts.proofs.OwnStaged.{names_more, nest_more, staged_own}
use Rattle.placement_texts.proofs.Theorem.{texts, carries}

slow_same : (new : Numbers) (home : Option Home) → IsSlow home → home ≡ home_up new home
slow_same new None h = refl
slow_same new (Some (SlowMemref number first)) h = refl
slow_same new (Some (FastMemref number)) h = absurd h
slow_same new (Some (TagMemref first)) h = absurd h

pub alike_itself : (own : Name → Bool) (new : Numbers) (e : Env) → ((m : Name) → IsSlow (e.home m)) → Alike own new e e
alike_itself own new e h = record { known = λ n o. refl; home = λ n o. slow_same new (e.home n) (h n); fasts = refl; tags = refl }

module _ (made_by : Name → ℕ) where
  own : ℕ → Name → Bool
  own k n = there made_by k n

  pub later : (j k : ℕ) (n : Name) → j ≤ k → there made_by j n ≡ true → there made_by k n ≡ true
  later j k n less h = let a = leb-true (made_by n) j h in le-leb (made_by n) k (omega (arith, a, less))

  pub dims_later : (j k : ℕ) (ds : List Dimension) → j ≤ k → OwnDims (there made_by j) ds → OwnDims (there made_by k) ds
  dims_later j k [] less h = tt
  dims_later j k (d ∷ ds) less h = (names_more (there made_by j) (there made_by k) (λ n. later j k n less) (term_names d.terms) h.0, dims_later j k ds less h.1)

  pub made_names : (k : ℕ) (s : Step) → Fits made_by k s → MadeNames (there made_by k) s.placement.name
  made_names k s f = record {
    made = λ i. (let e = f.made i in let t : nat_le (made_by (s.placement.name i)) k ≡ false = grind (arith, e) in t);
    apart = f.apart;
  }

  module _ (e : Env) (slow : (m : Name) → IsSlow (e.home m)) where
    pub suits : (k : ℕ) (s : Step) (n : Nest) → Fits made_by k s → OwnNest (there made_by k) n → IsReady made_by n e s → Suits (there made_by k) s.placement (numbers_at s n e) (found s.spot n) n e
    suits k s n f h r = record {
      loop = r.loop;
      names = made_names k s f;
      memref_own = later 0 k s.placement.memref (omega arith) f.memref_own;
      dims_own = dims_later 0 k s.placement.dims (omega arith) f.dims_own;
      text_own = h;
      fast = refl;
      tag = refl;
      tags = refl;
    }

    -- a later step stays ready
    ready : (k : ℕ) (s : Step) (n : Nest) → Fits made_by k s → OwnNest (there made_by k) n → IsReady made_by n e s → (o : Step) → there made_by 0 o.placement.memref ≡ true → OwnDims (there made_by 0) o.placement.dims
        → Parted made_by s o → IsReady made_by n e o → IsReady made_by (stage_one s.placement s.spot n) e o
    ready k s n f h r o o_own o_dims parted q =
        let p = s.placement in
        let names = made_names k s f in
        let m_own = later 0 k p.memref (omega arith) f.memref_own in
        let tag_differs : same_name (tag_name p.name) p.memref ≡ false = same_name-sym (tag_name p.name) p.memref ∙ apart_own (there made_by k) p.memref (tag_name p.name) m_own (names.made 1) in
        let stays = staged_stays p (tag_name p.name) e tag_differs (tag_not_fast k s f) o.spot (found s.spot n) n r.loop r.line (q.loop, q.line) in
        record {
          loop = stays.0;
          line = stays.1;
          fine = carries (there made_by k) p s.order s.first (numbers_at s n e) (found s.spot n) n e e (suits k s n f h r) r.line (alike_itself (there made_by k) (numbers_at s n e) e slow) r.fine o.placement o.order o.first o.spot
              (later 0 k o.placement.memref (omega arith) o_own) (dims_later 0 k o.placement.dims (omega arith) o_dims) (either parted) q.fine;
        }
      where
        tag_not_fast : (k : ℕ) (s : Step) → Fits made_by k s → same_name (tag_name s.placement.name) (fast_name s.placement.name) ≡ false
        tag_not_fast k s f = by (same_name (tag_name s.placement.name) (fast_name s.placement.name)) refl
          where
            by : (t : Bool) → same_name (tag_name s.placement.name) (fast_name s.placement.name) ≡ t → same_name (tag_name s.placement.name) (fast_name s.placement.name) ≡ false
            by true e = let z = f.apart 1 0 e in absurd (omega (arith, z))
            by false e = e

        either : Parted made_by s o → (same_name o.placement.memref s.placement.memref ≡ false) ⊎ Disjoint (found o.spot n) (found s.spot n)
        either (inl d) = inl d
        either (inr d) = inr (found_disjoint o.spot s.spot n d)

    pub all_ready : (k : ℕ) (s : Step) (n : Nest) → Fits made_by k s → OwnNest (there made_by k) n → IsReady made_by n e s → (j : ℕ) (ss : List Step) → AllFit made_by j ss → Every (Parted made_by s) ss → Every (IsReady made_by n e) ss
        → Every (IsReady made_by (stage_one s.placement s.spot n) e) ss
    all_ready k s n f h r j [] fits parted q = tt
    all_ready k s n f h r j (o ∷ ss) fits parted q = (ready k s n f h r o fits.0.memref_own fits.0.dims_own parted.0 q.0, all_ready k s n f h r (suc j) ss fits.1 parted.1 q.1)

    all_read : (k : ℕ) (ss : List Step) (n : Nest) → OwnNest (there made_by k) n → AllFit made_by k ss → Every (IsReady made_by n e) ss → AllParted made_by ss → InText TagIsOne n → AllApart made_by ss n e → AllRead ss n e
    all_read k [] n h fits r parted one apart = tt
    all_read k (s ∷ ss) n h fits r parted one apart =
        let n' = stage_one s.placement s.spot n in
        let f = fits.0 in
        let new = numbers_at s n e in
        let tidy : Each (Tidy new s.placement.memref s.first (dim_sizes s.placement.dims)) n e =
        each_both (Together new) (Apart s.placement.memref s.first (dim_sizes s.placement.dims)) n e (tags_together new n e one) apart.0 in
        let more = nest_more (there made_by k) (there made_by (suc k)) (λ x. later k (suc k) x (omega arith)) n h in
        let made : (i : ℕ) → there made_by (suc k) (s.placement.name i) ≡ true = λ i. (let e = f.made i in le-leb (made_by (s.placement.name i)) (suc k) (omega (arith, e))) in
        let own' : OwnNest (there made_by (suc k)) n' =
        staged_own (there made_by k) (there made_by (suc k)) (λ x. later k (suc k) x (omega arith)) s.placement made (later 0 k s.placement.memref (omega arith) f.memref_own) (dims_later 0 k s.placement.dims (omega arith) f.dims_own) f.elements (found s.spot n) n more in (
          texts (there made_by k) s.placement s.order s.first (numbers_at s n e) (found s.spot n) n e e (suits k s n f h r.0) (alike_itself (there made_by k) (numbers_at s n e) e slow) tidy r.0.fine,
          all_read (suc k) ss n' own' fits.1 (all_ready k s n f h r.0 (suc k) ss fits.1 parted.0 r.1) parted.1 (one_tag_staged s.placement (found s.spot n) n one) apart.1,
        )

pub all_texts : AllTextsAgree
all_texts made_by ss n e h fits r parted slow one apart = all_read made_by e slow 0 ss n h fits r parted one apart
