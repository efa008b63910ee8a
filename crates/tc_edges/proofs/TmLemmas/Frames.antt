-- A frame that was written reads back.
use Rattle.std.proofs.Common.{◌≡◌, ℕ, ◌+◌, ◌-◌, ◌*◌, ◌/◌, ◌%◌, ◌<◌, ◌≤◌, List, [], ◌∷◌, ◌++◌, length, drop, take, replicate, get_or, Option, Some, None, refl, ap, sym, ◌∙◌, arith, length-append}
use Rattle.std.specs.Prelude.{slice_index}
use Rattle.std.proofs.lemmas.Bool.Decides.{nat_tests}
use Rattle.std.proofs.lemmas.List.{length-replicate, take_at, drop_at}
use Rattle.tc_link.specs.Bits.{word_at, bits}
use Rattle.tc_edges.specs.Fecf.Checksum.{checksum_of}
use Rattle.tc_edges.specs.Fecf.FrameWithField.{spelled}
use Rattle.tc_edges.proofs.FecfLemmas.Closing.{closed}
use Rattle.tc_edges.specs.Tm.TmFrame.{IsTmHeader, identifiers, idle_status, only_idle, primary_header, before_sum, tm_frame, least_length, fields_before_sum, tm_fields_of, sum_fault_of, read_fault_of}
use Rattle.tc_edges.specs.declared.tm.frame.ErrorControl.{ErrorControl}
use Rattle.tc_edges.specs.declared.tm.frame.ErrorControl.TheVariants.{Absent, Present}
use Rattle.tc_edges.specs.declared.tm.frame.TmHeader.{TmHeader}
use Rattle.tc_edges.specs.declared.tm.reading.TmFields.{TmFields}

before-length : (header : TmHeader) (control : List ℕ) (n : ℕ) → length control ≡ 4 → 10 ≤ n → length (before_sum header control n) ≡ n
before-length header control n four least =
    let idle : length (replicate {A = ℕ} (n - 10) 85) ≡ n - 10 = length-replicate (n - 10) 85 in
    let all : length (replicate {A = ℕ} (n - 10) 85 ++ control) ≡ length (replicate {A = ℕ} (n - 10) 85) + length control = length-append (replicate (n - 10) 85) control in
    omega arith

pub written-length : (error : ErrorControl) (header : TmHeader) (control : List ℕ) (n : ℕ) → length control ≡ 4 → least_length error ≤ n
    → length (tm_frame error header control n) ≡ n
written-length Absent header control n four least = before-length header control n four (omega arith)
written-length Present header control n four least =
    let before = before_sum header control (n - 2) in
    let front = before-length header control (n - 2) four (omega arith) in
    let all = length-append before (spelled (checksum_of before)) in
    omega arith

-- the fields that have these values
abbrev pub fields-made : ℕ → ℕ → ℕ → ℕ → ℕ → List ℕ → TmFields
fields-made s v m c p k = record { header = record { scid = s; vcid = v; master_count = m; channel_count = c }; pointer = p; control = k }

pub same-fields : (s t v w m c p q : ℕ) (k l : List ℕ) → s ≡ t → v ≡ w → p ≡ q → k ≡ l → fields-made s v m c p k ≡ fields-made t w m c q l
same-fields s t v w m c p q k l e f g h =
    ap (λ (x : ℕ). fields-made x v m c p k) e ∙ ap (λ (x : ℕ). fields-made t x m c p k) f ∙ ap (λ (x : ℕ). fields-made t w m c x k) g
    ∙ ap (fields-made t w m c q) h

before-fields : (header : TmHeader) (control : List ℕ) (n : ℕ) → IsTmHeader header → length control ≡ 4 → 10 ≤ n
    → fields_before_sum (before_sum header control n) ≡ record { header = header; pointer = only_idle; control = control }
before-fields header control n fits four least =
    let scid_fits = fits.scid in let vcid_fits = fits.vcid in
    let front = primary_header header ++ replicate (n - 10) 85 in
    let idle : length (replicate {A = ℕ} (n - 10) 85) ≡ n - 10 = length-replicate (n - 10) 85 in
    let lengths : length front ≡ n - 4 = omega arith in
    let all = before-length header control n four least in
    let end : drop (length (before_sum header control n) - 4) (front ++ control) ≡ control =
    ap (λ (k : ℕ). drop (k - 4) (front ++ control)) all ∙ drop_at front control (n - 4) lengths in
    let octets = before_sum header control n in
    let scid : bits (word_at octets 0) 4 10 ≡ header.scid = omega arith in
    let vcid : bits (word_at octets 0) 1 3 ≡ header.vcid = omega arith in
    same-fields (bits (word_at octets 0) 4 10) header.scid (bits (word_at octets 0) 1 3) header.vcid header.master_count header.channel_count only_idle only_idle
    (drop (length octets - 4) octets) control scid vcid refl end

pub fields-back : (error : ErrorControl) (header : TmHeader) (control : List ℕ) (n : ℕ) → IsTmHeader header → length control ≡ 4 → least_length error ≤ n
    → tm_fields_of error (tm_frame error header control n) ≡ record { header = header; pointer = only_idle; control = control }
fields-back Absent header control n fits four least = before-fields header control n fits four (omega arith)
fields-back Present header control n fits four least =
    let before = before_sum header control (n - 2) in
    let sum = spelled (checksum_of before) in
    let front = before-length header control (n - 2) four (omega arith) in
    let all = length-append before sum in
    let cut : take (length (before ++ sum) - 2) (before ++ sum) ≡ before = take_at before sum (length (before ++ sum) - 2) (omega arith) in
    ap fields_before_sum cut ∙ before-fields header control (n - 2) fits four (omega arith)

no-fault : (error : ErrorControl) (octets : List ℕ) → least_length error ≤ length octets → bits (word_at octets 0) 14 2 ≡ 0 → bits (word_at octets 0) 0 1 ≡ 1
    → sum_fault_of error octets ≡ None → read_fault_of error octets ≡ None
no-fault error octets long version flag sum = grind (arith, nat_tests)

sum-right : (error : ErrorControl) (header : TmHeader) (control : List ℕ) (n : ℕ) → sum_fault_of error (tm_frame error header control n) ≡ None
sum-right Absent header control n = refl
sum-right Present header control n = let right = closed (before_sum header control (n - 2)) in grind (arith, nat_tests)

version-right : (error : ErrorControl) (header : TmHeader) (control : List ℕ) (n : ℕ) → IsTmHeader header → bits (word_at (tm_frame error header control n) 0) 14 2 ≡ 0
version-right Absent header control n fits = let scid_fits = fits.scid in let vcid_fits = fits.vcid in omega arith
version-right Present header control n fits = let scid_fits = fits.scid in let vcid_fits = fits.vcid in omega arith

flag-right : (error : ErrorControl) (header : TmHeader) (control : List ℕ) (n : ℕ) → IsTmHeader header → bits (word_at (tm_frame error header control n) 0) 0 1 ≡ 1
flag-right Absent header control n fits = let scid_fits = fits.scid in let vcid_fits = fits.vcid in omega arith
flag-right Present header control n fits = let scid_fits = fits.scid in let vcid_fits = fits.vcid in omega arith

pub read-back : (error : ErrorControl) (header : TmHeader) (control : List ℕ) (n : ℕ) → IsTmHeader header → length control ≡ 4 → least_length error ≤ n
    → read_fault_of error (tm_frame error header control n) ≡ None
read-back error header control n fits four least =
    let long = written-length error header control n four least in
    no-fault error (tm_frame error header control n) (omega arith) (version-right error header control n fits) (flag-right error header control n fits)
    (sum-right error header control n)
