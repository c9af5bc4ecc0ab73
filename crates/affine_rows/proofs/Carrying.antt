-- From the test that computes to what a start asks, and what a start leaves.
use Rattle.std.proofs.Common.{◌≡◌, ℕ, ℤ, zero, suc, ◌+◌, ◌*◌, ◌/◌, ◌%◌, ◌<◌, ◌&&◌, Bool, true, false, List, [], ◌∷◌, length, nat_lt, refl, ap, ◌∙◌, arith}
use Rattle.std.specs.Prelude.{Option, Some, None, slice_set, if◌then◌else◌}
use Rattle.std.specs.List.{list_all, range_with_len}
use Rattle.std.proofs.lemmas.Bool.{eqb-true, leb-true, ltb-true}
use Rattle.std.proofs.lemmas.Nat.{div-add-mod'}
use Rattle.bus_model.specs.declared.transfer.Transfer.{Transfer}
use Rattle.bus_model.specs.declared.transfer.Started.{Started}
use Rattle.bus_model.specs.Places.{slow_place}
use Rattle.bus_model.specs.Copies.{moved_in, moved_out}
use Rattle.tag_table.specs.declared.view.Parcel.{Parcel}
use Rattle.tag_table.specs.Rule.{started_at}
use Rattle.tag_table.specs.Shapes.{ComputeShape, MayStart, after_start, with_tag, with_prompt}
use Rattle.affine_rows.specs.Carried.{may_carry}

both : (a b : Bool) → (a && b) ≡ true → (a ≡ true) × (b ≡ true)
both true b e = (refl, e)
both false b e = absurd (cc)

pass_at : (p : ℕ → Bool) (a n : ℕ) → list_all p (range_with_len a n) ≡ true → (e k : ℕ) → e < n → a + e ≡ k → p k ≡ true
pass_at p a zero h e k lt is = absurd (omega arith)
pass_at p a (suc n) h zero k lt is = ap p (let q : k ≡ a = omega arith in q) ∙ (both (p a) (list_all p (range_with_len (a + 1) n)) h).0
pass_at p a (suc n) h (suc e) k lt is = pass_at p (a + 1) n (both (p a) (list_all p (range_with_len (a + 1) n)) h).1 e k (omega arith) (omega arith)

pub fits : (t : Transfer) (n : ℕ) → list_all (λ e. nat_lt (slow_place t e) n) (range_with_len 0 t.count) ≡ true → (e : ℕ) → e < t.count → slow_place t e < n
fits t n h e lt = ltb-true (slow_place t e) n (pass_at (λ e. nat_lt (slow_place t e) n) 0 t.count h e e lt (omega arith))

none_started : (u : ℕ) → started_at (None ∷ []) u ≡ None
none_started zero = refl
none_started (suc u) = refl

not_started : (o : Option Started) (b : Started) → o ≡ None → o ≡ Some b → ⊥
not_started o b p q = cc

pub may_start : (n : ℕ) (p : Parcel) → p.moved ≡ 0 → may_carry n p.transfer (length p.cells.items) ≡ true → MayStart n (None ∷ []) 0 p
may_start n p zero_moved h =
    let t = p.transfer in
    let g = both _ _ h in
    let f = both _ _ g.0 in
    let e = both _ _ f.0 in
    let d = both _ _ e.0 in
    let c = both _ _ d.0 in
    let b = both _ _ c.0 in
    let whole : t.count % t.chunk ≡ 0 = eqb-true (t.count % t.chunk) 0 c.1 in
    let parts = div-add-mod' t.count t.chunk in
    record {
      idle = refl;
      named = eqb-true t.tag 0 b.0;
      unmoved = zero_moved;
      some_count = leb-true 1 t.count b.1;
      whole_chunks = (t.count / t.chunk, (let q = t.count / t.chunk * t.chunk in omega arith));
      wide = leb-true t.chunk t.stride e.1;
      some_chunk = leb-true 1 t.chunk d.1;
      within = fits t n f.1;
      inside = leb-true (t.offset + t.count) (length p.cells.items) g.1;
      clear = λ u e f b has. absurd (not_started (started_at (None ∷ []) u) b (none_started u) has);
    }

pub started_after : (s : ComputeShape) (x : Transfer) (cells : List ℤ) → s.tags ≡ None ∷ [] → (st : Started) × (started_at (after_start s 0 x cells).tags 0 ≡ Some st)
started_after s x cells is = go x.incoming refl
  where
    st_in : Started
    st_in = record { transfer = x; list = moved_in x s.prompt cells }

    st_out : Started
    st_out = record { transfer = x; list = cells }

    go : (b : Bool) → x.incoming ≡ b → (st : Started) × (started_at (after_start s 0 x cells).tags 0 ≡ Some st)
    go true e = (st_in, ap (λ b. started_at (if b then with_tag s 0 (Some st_in) else with_prompt (with_tag s 0 (Some st_out)) (moved_out x cells s.prompt)).tags 0) e ∙ ap (λ l. started_at (slice_set l 0 (Some st_in)) 0) is)
    go false e = (st_out, ap (λ b. started_at (if b then with_tag s 0 (Some st_in) else with_prompt (with_tag s 0 (Some st_out)) (moved_out x cells s.prompt)).tags 0) e ∙ ap (λ l. started_at (slice_set l 0 (Some st_out)) 0) is)
