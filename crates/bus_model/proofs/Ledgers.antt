-- What each kind of step does to the ledger. Every change is told point by point, so that a list and a row of words serve alike.
use Rattle.std.proofs.Common.{◌≡◌, ◌≢◌, ℕ, ℤ, pos, ◌+◌, ◌<◌, ◌≤◌, Bool, true, false, length, set, sym, ap, ◌∙◌, subst, inl, inr, ⊎_elim, arith, length-set, get_or-set_other, get_or-set_same}
use Rattle.std.specs.Prelude.{Option, Some, None}
use native.Mathlib.Decide.{ℕ_discrete}
use Rattle.bus_model.specs.declared.transfer.Started.{Started}
use Rattle.bus_model.specs.Places.{slow_place}
use Rattle.bus_model.specs.Copies.{number_at}
use Rattle.bus_model.specs.Ledger.{Progress, Placed, Copied, Apart, Ledger}

same_some : (o : Option Started) (f g : Started) → o ≡ Some f → o ≡ Some g → f ≡ g
same_some o f g a b = cc

both_ways : (b : Bool) → b ≡ true → b ≡ false → ⊥
both_ways b x y = cc

none_some : (o : Option Started) (f : Started) → o ≡ None → o ≡ Some f → ⊥
none_some o f a b = cc

module _ (n : ℕ) (word word' prompt : ℕ → ℤ) (has : ℕ → Option Started) (at at' : ℕ → Progress) (l : Ledger n word prompt has at) where
  -- nothing changes that it turns on
  pub ledger_keeps : ((i : ℕ) → i < n → word' i ≡ word i) → ((t : ℕ) → at' t ≡ at t) → Ledger n word' prompt has at'
  ledger_keeps same same_at = record {
    words_are = λ i lt clear. same i lt ∙ l.words_are i lt (λ t f st h out le. clear t f st h out (subst (λ (p : Progress). p.moved ≤ f) (sym (same_at t)) le));
    placed = l.placed;
    copied = λ t st h. subst (Copied prompt st) (sym (same_at t)) (l.copied t st h);
    apart = l.apart;
  }

  module _ (t : ℕ) (st : Started) (here : has t ≡ Some st) (more : (at t).moved < st.transfer.count) (others : (u : ℕ) → u ≢ t → at' u ≡ at u) where
    -- the word that is moved in is the prompt one
    pub incoming_word : st.transfer.incoming ≡ true → word (slow_place st.transfer (at t).moved) ≡ prompt (slow_place st.transfer (at t).moved)
    incoming_word inc = l.words_are (slow_place st.transfer (at t).moved) ((l.placed t st here).within (at t).moved more) (λ u f g h out le lf meet. elim (ℕ_discrete u t) [
      | yes e ↦ both_ways st.transfer.incoming inc (subst (λ (q : Started). q.transfer.incoming ≡ false) (same_some (has t) g st (ap has (sym e) ∙ h) here) out)
      | no ne ↦ l.apart u t g st ne h here (inl out) f (at t).moved lf more meet
    ])

    pub ledger_in : st.transfer.incoming ≡ true → ((i : ℕ) → i < n → word' i ≡ word i)
        → at' t ≡ record { moved = (at t).moved + 1; cells = set (at t).cells (st.transfer.offset + (at t).moved) (word (slow_place st.transfer (at t).moved)) }
        → Ledger n word' prompt has at'
    ledger_in inc same now =
        let m = (at t).moved in
        let z = word (slow_place st.transfer m) in
        let c0 = (at t).cells in
        let off = st.transfer.offset + m in
        let new : Progress = record { moved = m + 1; cells = set c0 off z } in
        let old = l.copied t st here in
        let placed = l.placed t st here in
        let inside : off < length c0 = let a = old.long in let b = placed.inside in omega arith in
        record {
          words_are = λ i lt clear. same i lt ∙ l.words_are i lt (λ u f g h out le. elim (ℕ_discrete u t) [
            | yes e ↦ absurd (both_ways st.transfer.incoming inc (subst (λ (q : Started). q.transfer.incoming ≡ false) (same_some (has t) g st (ap has (sym e) ∙ h) here) out))
            | no ne ↦ clear u f g h out (subst (λ (p : Progress). p.moved ≤ f) (sym (others u ne)) le)
          ]);
          placed = l.placed;
          copied = λ u f h. elim (ℕ_discrete u t) [
            | yes e ↦ subst (λ (q : Started × Progress). Copied prompt q.0 q.1) (λ k. (same_some (has t) st f here (ap has (sym e) ∙ h) k, sym (ap at' e ∙ now) k)) record {
              prompt_is = old.prompt_is;
              long = length-set c0 off z ∙ old.long;
              cells_are = λ k left. elim (ℕ_discrete k off) [
                | yes q ↦ ap (number_at new.cells) q ∙ get_or-set_same c0 off z (pos 0) inside ∙ incoming_word inc ∙ old.prompt_is m more ∙ ap (number_at st.list) (sym q)
                | no ne ↦ get_or-set_other c0 off k z (pos 0) ne ∙ old.cells_are k (λ i'. ⊎_elim (λ (a : k < st.transfer.offset + (m + 1)). inl (omega arith)) (λ b. inr b) (left i'))
              ];
              not_past = omega arith;
            }
            | no ne ↦ subst (Copied prompt f) (sym (others u ne)) (l.copied u f h)
          ];
          apart = l.apart;
        }

    pub ledger_out : st.transfer.incoming ≡ false → ((i : ℕ) → i < n → i ≢ slow_place st.transfer (at t).moved → word' i ≡ word i)
        → word' (slow_place st.transfer (at t).moved) ≡ number_at (at t).cells (st.transfer.offset + (at t).moved)
        → at' t ≡ record { moved = (at t).moved + 1; cells = (at t).cells }
        → Ledger n word' prompt has at'
    ledger_out out same put now =
        let m = (at t).moved in
        let spot = slow_place st.transfer m in
        let old = l.copied t st here in
        let cell_is : number_at (at t).cells (st.transfer.offset + m) ≡ prompt spot = old.cells_are (st.transfer.offset + m) (λ i'. absurd (both_ways st.transfer.incoming i' out)) ∙ sym (old.prompt_is m more) in
        record {
          words_are = λ i lt clear. elim (ℕ_discrete i spot) [
            | yes e ↦ ap word' e ∙ put ∙ cell_is ∙ ap prompt (sym e)
            | no ne ↦ same i lt ne ∙ l.words_are i lt (λ u f g h o le. elim (ℕ_discrete u t) [
              | yes e ↦ λ lf meet. let gs : g ≡ st = same_some (has t) g st (ap has (sym e) ∙ h) here in
                  let le' : m ≤ f = let a = ap (λ q. (at q).moved) e in omega arith in
                  elim (ℕ_discrete f m) [
                    | yes q ↦ ne (sym meet ∙ (λ k. slow_place (gs k).transfer (q k)))
                    | no nq ↦ clear u f g h o (subst (λ (p : Progress). p.moved ≤ f) (sym (ap at' e ∙ now)) (omega arith)) lf meet
                  ]
              | no apart ↦ clear u f g h o (subst (λ (p : Progress). p.moved ≤ f) (sym (others u apart)) le)
            ])
          ];
          placed = l.placed;
          copied = λ u f h. elim (ℕ_discrete u t) [
            | yes e ↦ subst (λ (q : Started × Progress). Copied prompt q.0 q.1) (λ k. (same_some (has t) st f here (ap has (sym e) ∙ h) k, sym (ap at' e ∙ now) k)) record {
              prompt_is = old.prompt_is;
              long = old.long;
              cells_are = λ k _. old.cells_are k (λ i'. absurd (both_ways st.transfer.incoming i' out));
              not_past = omega arith;
            }
            | no ne ↦ subst (Copied prompt f) (sym (others u ne)) (l.copied u f h)
          ];
          apart = l.apart;
        }

-- a store at a word that no transfer meets, a start, and a wait
module _ (n : ℕ) (word word' prompt prompt' : ℕ → ℤ) (has has' : ℕ → Option Started) (at at' : ℕ → Progress) (l : Ledger n word prompt has at) where
  pub ledger_store : (i : ℕ) (z : ℤ) → ((t e : ℕ) (st : Started) → has t ≡ Some st → e < st.transfer.count → slow_place st.transfer e ≢ i) → word' i ≡ z → prompt' i ≡ z
      → ((j : ℕ) → j ≢ i → word' j ≡ word j) → ((j : ℕ) → j ≢ i → prompt' j ≡ prompt j) → Ledger n word' prompt' has at
  ledger_store i z clear now now' same same' = record {
    words_are = λ j lt np. elim (ℕ_discrete j i) [ yes e ↦ ap word' e ∙ now ∙ sym now' ∙ ap prompt' (sym e) | no ne ↦ same j ne ∙ l.words_are j lt np ∙ sym (same' j ne) ];
    placed = l.placed;
    copied = λ t st h. let old = l.copied t st h in record { prompt_is = λ e lt. same' (slow_place st.transfer e) (clear t e st h lt) ∙ old.prompt_is e lt; long = old.long; cells_are = old.cells_are; not_past = old.not_past };
    apart = l.apart;
  }

  pub ledger_start : (t : ℕ) (st : Started) → has t ≡ None → has' t ≡ Some st → ((u : ℕ) → u ≢ t → has' u ≡ has u) → (at' t).moved ≡ 0 → ((u : ℕ) → u ≢ t → at' u ≡ at u)
      → ((i : ℕ) → i < n → word' i ≡ word i)
      → ((i : ℕ) → (st.transfer.incoming ≡ false → (e : ℕ) → e < st.transfer.count → slow_place st.transfer e ≢ i) → prompt' i ≡ prompt i)
      → Placed n st → Copied prompt' st (at' t) → ((u : ℕ) (b : Started) → has u ≡ Some b → Apart st b)
      → Ledger n word' prompt' has' at'
  ledger_start t st idle now others fresh others_at same_word same_prompt placed copied clear = record {
    words_are = λ i near np. same_word i near ∙ l.words_are i near (λ u f g h out le. let ne = apart_from u g h in np u f g (others u ne ∙ h) out (subst (λ (p : Progress). p.moved ≤ f) (sym (others_at u ne)) le))
        ∙ sym (same_prompt i (λ out e le. np t e st now out (omega arith) le));
    placed = λ u f h. elim (ℕ_discrete u t) [ yes e ↦ subst (Placed n) (is_st u f e h) placed | no ne ↦ l.placed u f (sym (others u ne) ∙ h) ];
    copied = λ u f h. elim (ℕ_discrete u t) [
      | yes e ↦ subst (λ (q : Started × ℕ). Copied prompt' q.0 (at' q.1)) (λ k. (is_st u f e h k, sym e k)) copied
      | no ne ↦ let h' = sym (others u ne) ∙ h in let old = l.copied u f h' in subst (Copied prompt' f) (sym (others_at u ne)) record { prompt_is = λ e le. same_prompt (slow_place f.transfer e) (λ out d ld. clear u f h' (inl out) d e ld le) ∙ old.prompt_is e le; long = old.long; cells_are = old.cells_are; not_past = old.not_past }
    ];
    apart = λ u w a b ne ha hb. elim (ℕ_discrete u t) [
      | yes e ↦ elim (ℕ_discrete w t) [ yes d ↦ absurd (ne (e ∙ sym d)) | no nw ↦ subst (λ c. Apart c b) (is_st u a e ha) (clear w b (sym (others w nw) ∙ hb)) ]
      | no nu ↦ elim (ℕ_discrete w t) [ yes d ↦ subst (λ c. Apart a c) (is_st w b d hb) (turned a (clear u a (sym (others u nu) ∙ ha))) | no nw ↦ l.apart u w a b ne (sym (others u nu) ∙ ha) (sym (others w nw) ∙ hb) ]
    ];
  }
    where
      is_st : (u : ℕ) (f : Started) → u ≡ t → has' u ≡ Some f → st ≡ f
      is_st u f e h = same_some (has' t) st f now (ap has' (sym e) ∙ h)

      apart_from : (u : ℕ) (g : Started) → has u ≡ Some g → u ≢ t
      apart_from u g h e = none_some (has u) g (ap has e ∙ idle) h

      turned : (a : Started) → Apart st a → Apart a st
      turned a h o e f le lf same = h (⊎_elim (λ p. inr p) (λ p. inl p) o) f e lf le (sym same)

  pub ledger_drop : (t : ℕ) (st : Started) → has t ≡ Some st → (at t).moved ≡ st.transfer.count → has' t ≡ None → ((u : ℕ) → u ≢ t → has' u ≡ has u) → ((u : ℕ) → u ≢ t → at' u ≡ at u)
      → ((i : ℕ) → i < n → word' i ≡ word i) → Ledger n word' prompt has' at'
  ledger_drop t st here all gone others others_at same_word = record {
    words_are = λ i near np. same_word i near ∙ l.words_are i near (λ u f g h out le lf. elim (ℕ_discrete u t) [
      | yes e ↦ let gs : g ≡ st = same_some (has t) g st (ap has (sym e) ∙ h) here in let c : g.transfer.count ≡ st.transfer.count = ap (λ (q : Started). q.transfer.count) gs in let m : (at u).moved ≡ st.transfer.count = ap (λ q. (at q).moved) e ∙ all in absurd (omega arith)
      | no ne ↦ np u f g (others u ne ∙ h) out (subst (λ (p : Progress). p.moved ≤ f) (sym (others_at u ne)) le) lf
    ]);
    placed = λ u f h. let p = left u f h in l.placed u f p.1;
    copied = λ u f h. let p = left u f h in subst (Copied prompt f) (sym (others_at u p.0)) (l.copied u f p.1);
    apart = λ u w a b ne ha hb. let p = left u a ha in let q = left w b hb in l.apart u w a b ne p.1 q.1;
  }
    where
      left : (u : ℕ) (f : Started) → has' u ≡ Some f → (u ≢ t) × (has u ≡ Some f)
      left u f h = let ne : u ≢ t = λ e. none_some (has' u) f (ap has' e ∙ gone) h in (ne, sym (others u ne) ∙ h)
