-- What a push and a pop do to the messages of a ring.
use Rattle.std.proofs.Common.{◌≡◌, ℕ, zero, suc, ◌+◌, ◌-◌, ◌%◌, ◌<◌, ltb, List, [], ◌∷◌, ◌++◌, map, length, get_or, set, Some, None, sym, refl, ap, ◌∙◌, mod-eq_of_lt, arith, get_or-set_other, get_or-set_same}
use Rattle.std.specs.Bool.{then_some}
use Rattle.std.specs.List.{range_with_len}
use Rattle.std.proofs.lemmas.List.{same_lists}
use Rattle.std.proofs.lemmas.Bool.{lt-ltb}
use Rattle.std.proofs.lemmas.List.FromFn.{length-map-range_with_len, get_or-map-range_with_len, map-range_with_len_more}
use Rattle.heal.specs.declared.Msg.{Msg}
use Rattle.heal.specs.declared.Msg.TheVariants.{Asks}
use Rattle.heal.specs.declared.Call.TheVariants.{Spawn}
use Rattle.heal.specs.Kernel.{first_of, tail}
use Rattle.memory.specs.Mail.{message_at, messages}

pub length-messages : (ring : List Msg) (first len : ℕ) → length (messages ring first len) ≡ len
unfolding messages
length-messages ring first len = length-map-range_with_len (message_at ring) first len

pub no_messages : (ring : List Msg) (first : ℕ) → messages ring first 0 ≡ []
unfolding messages
no_messages ring first = refl

pub first_of-messages : (ring : List Msg) (first len : ℕ) → first < 512 → first_of (messages ring first len) ≡ then_some (ltb 0 len) (get_or ring first (Asks 0 0 (Spawn 0)))
unfolding messages message_at first_of
first_of-messages ring first zero h = refl
first_of-messages ring first (suc len) h =
    let x = get_or ring first (Asks 0 0 (Spawn 0)) in
    let e : first % 512 ≡ first = mod-eq_of_lt h in
    ap (λ i. Some (get_or ring i (Asks 0 0 (Spawn 0)))) e ∙ sym (ap (λ b. then_some b x) (lt-ltb 0 (suc len) (omega arith)))

-- the messages from one position on, and from another
same_from : (f g : ℕ → Msg) (a b n : ℕ) → ((i : ℕ) → i < n → f (a + i) ≡ g (b + i)) → map f (range_with_len a n) ≡ map g (range_with_len b n)
same_from f g a b n e =
    same_lists _ _ (length-map-range_with_len f a n ∙ sym (length-map-range_with_len g b n))
    (λ i d l.
    let h : i < n = omega (arith, length-map-range_with_len f a n) in
    get_or-map-range_with_len f a n i (a + i) d h refl ∙ e i h ∙ sym (get_or-map-range_with_len g b n i (b + i) d h refl))

pub messages-push : (ring : List Msg) (first len : ℕ) (m : Msg) → length ring ≡ 512 → len < 512 → messages (set ring ((first + len) % 512) m) first (len + 1) ≡ messages ring first len ++ (m ∷ [])
unfolding messages message_at
messages-push ring first len m full room =
    let at = (first + len) % 512 in
    map-range_with_len_more (message_at (set ring at m)) first len (first + len) refl
    ∙ (λ i. same_from (message_at (set ring at m)) (message_at ring) first first len (λ j l. get_or-set_other ring at ((first + j) % 512) m (Asks 0 0 (Spawn 0)) (λ e. omega arith)) i
    ++ (get_or-set_same ring at m (Asks 0 0 (Spawn 0)) (omega arith) i ∷ []))

pub messages-pop : (ring : List Msg) (first len : ℕ) → 0 < len → messages ring ((first + 1) % 512) (len - 1) ≡ tail (messages ring first len)
unfolding messages message_at tail
messages-pop ring first zero h = absurd (omega arith)
messages-pop ring first (suc len) h =
    let e : suc len - 1 ≡ len = omega arith in
    ap (λ n. map (message_at ring) (range_with_len ((first + 1) % 512) n)) e
    ∙ same_from (message_at ring) (message_at ring) ((first + 1) % 512) (first + 1) len (λ j l. ap (λ k. get_or ring k (Asks 0 0 (Spawn 0))) (omega arith))

-- nothing is first where there's no message
pub none_first : (ms : List Msg) → first_of ms ≡ None → ms ≡ tail ms
unfolding first_of tail
none_first [] e = refl
none_first (m ∷ ms) e = cc

pub some_first : (ms : List Msg) (m : Msg) → first_of ms ≡ Some m → 0 < length ms
unfolding first_of
some_first [] m e = cc
some_first (n ∷ ms) m e = omega arith
