-- Kinds of programs and their numbers.
use Rattle.std.proofs.Common.{◌≡◌, ℕ, ◌≤◌, Bool, true, false, cond, List, [], ◌∷◌, Option, None, Some, refl, ap, sym, ◌∙◌, arith, lit≤, length}
use Rattle.std.specs.Prelude.{◌==◌, ◌&&◌, find}
use Rattle.std.proofs.lemmas.Bool.Decides.{nat_tests}
use Rattle.plan_lines.specs.Kinds.{are_same, section_of, sections}
use Rattle.plan_lines.specs.Lines.{AreWithin, kind_list}
use Rattle.plan_lines.specs.ProgramKinds.{numbered, kind_numbers}
use Rattle.plan_lines.specs.declared.program_kind.KindNumbers.{KindNumbers}
use Rattle.program_kinds.specs.declared.attach.CgroupSkbAttachType.TheVariants as skb
use Rattle.program_kinds.specs.declared.attach.CgroupSockAddrAttachType.TheVariants as sock_addr
use Rattle.program_kinds.specs.declared.attach.CgroupSockAttachType.TheVariants as sock
use Rattle.program_kinds.specs.declared.attach.CgroupSockoptAttachType.TheVariants as sockopt
use Rattle.program_kinds.specs.declared.attach.SkReuseportAttachType.TheVariants as reuseport
use Rattle.program_kinds.specs.declared.attach.SkSkbKind.TheVariants as sk_skb
use Rattle.program_kinds.specs.declared.attach.XdpAttachType.TheVariants as xdp
use Rattle.program_kinds.specs.declared.program_section.ProgramSection.{ProgramSection}
use Rattle.program_kinds.specs.declared.program_section.ProgramSection.TheVariants as kind

-- Kinds.

-- A kind is read from its numbers, each of eight bits.
pub record IsKindNumbers (n : KindNumbers) (section : ProgramSection) : Type 0 where
  pub again : section_of n ≡ Some section
  pub few : AreWithin (255 ∷ 255 ∷ 255 ∷ []) (kind_list n)

plain : (n : KindNumbers) (section : ProgramSection) → section_of n ≡ Some section → n.kind ≤ 255 → n.first ≤ 255 → n.second ≤ 255 → IsKindNumbers n section
plain n section e k f s = record { again = e; few = (k, (f, (s, tt))) }

pub kind_is : (section : ProgramSection) → IsKindNumbers (kind_numbers section) section
kind_is kind.KRetProbe = plain _ _ refl (lit≤ tt) (lit≤ tt) (lit≤ tt)
kind_is kind.KProbe = plain _ _ refl (lit≤ tt) (lit≤ tt) (lit≤ tt)
kind_is (kind.UProbe false false) = plain _ _ refl (lit≤ tt) (lit≤ tt) (lit≤ tt)
kind_is (kind.UProbe false true) = plain _ _ refl (lit≤ tt) (lit≤ tt) (lit≤ tt)
kind_is (kind.UProbe true false) = plain _ _ refl (lit≤ tt) (lit≤ tt) (lit≤ tt)
kind_is (kind.UProbe true true) = plain _ _ refl (lit≤ tt) (lit≤ tt) (lit≤ tt)
kind_is (kind.URetProbe false false) = plain _ _ refl (lit≤ tt) (lit≤ tt) (lit≤ tt)
kind_is (kind.URetProbe false true) = plain _ _ refl (lit≤ tt) (lit≤ tt) (lit≤ tt)
kind_is (kind.URetProbe true false) = plain _ _ refl (lit≤ tt) (lit≤ tt) (lit≤ tt)
kind_is (kind.URetProbe true true) = plain _ _ refl (lit≤ tt) (lit≤ tt) (lit≤ tt)
kind_is kind.TracePoint = plain _ _ refl (lit≤ tt) (lit≤ tt) (lit≤ tt)
kind_is kind.SocketFilter = plain _ _ refl (lit≤ tt) (lit≤ tt) (lit≤ tt)
kind_is (kind.Xdp false xdp.Interface) = plain _ _ refl (lit≤ tt) (lit≤ tt) (lit≤ tt)
kind_is (kind.Xdp false xdp.CpuMap) = plain _ _ refl (lit≤ tt) (lit≤ tt) (lit≤ tt)
kind_is (kind.Xdp false xdp.DevMap) = plain _ _ refl (lit≤ tt) (lit≤ tt) (lit≤ tt)
kind_is (kind.Xdp true xdp.Interface) = plain _ _ refl (lit≤ tt) (lit≤ tt) (lit≤ tt)
kind_is (kind.Xdp true xdp.CpuMap) = plain _ _ refl (lit≤ tt) (lit≤ tt) (lit≤ tt)
kind_is (kind.Xdp true xdp.DevMap) = plain _ _ refl (lit≤ tt) (lit≤ tt) (lit≤ tt)
kind_is kind.SkMsg = plain _ _ refl (lit≤ tt) (lit≤ tt) (lit≤ tt)
kind_is (kind.SkSkbStream sk_skb.StreamParser) = plain _ _ refl (lit≤ tt) (lit≤ tt) (lit≤ tt)
kind_is (kind.SkSkbStream sk_skb.StreamVerdict) = plain _ _ refl (lit≤ tt) (lit≤ tt) (lit≤ tt)
kind_is kind.SockOps = plain _ _ refl (lit≤ tt) (lit≤ tt) (lit≤ tt)
kind_is kind.SchedClassifier = plain _ _ refl (lit≤ tt) (lit≤ tt) (lit≤ tt)
kind_is (kind.CgroupSkb None) = plain _ _ refl (lit≤ tt) (lit≤ tt) (lit≤ tt)
kind_is (kind.CgroupSkb (Some skb.Ingress)) = plain _ _ refl (lit≤ tt) (lit≤ tt) (lit≤ tt)
kind_is (kind.CgroupSkb (Some skb.Egress)) = plain _ _ refl (lit≤ tt) (lit≤ tt) (lit≤ tt)
kind_is (kind.CgroupSockAddr sock_addr.Bind4) = plain _ _ refl (lit≤ tt) (lit≤ tt) (lit≤ tt)
kind_is (kind.CgroupSockAddr sock_addr.Bind6) = plain _ _ refl (lit≤ tt) (lit≤ tt) (lit≤ tt)
kind_is (kind.CgroupSockAddr sock_addr.Connect4) = plain _ _ refl (lit≤ tt) (lit≤ tt) (lit≤ tt)
kind_is (kind.CgroupSockAddr sock_addr.Connect6) = plain _ _ refl (lit≤ tt) (lit≤ tt) (lit≤ tt)
kind_is (kind.CgroupSockAddr sock_addr.GetPeerName4) = plain _ _ refl (lit≤ tt) (lit≤ tt) (lit≤ tt)
kind_is (kind.CgroupSockAddr sock_addr.GetPeerName6) = plain _ _ refl (lit≤ tt) (lit≤ tt) (lit≤ tt)
kind_is (kind.CgroupSockAddr sock_addr.GetSockName4) = plain _ _ refl (lit≤ tt) (lit≤ tt) (lit≤ tt)
kind_is (kind.CgroupSockAddr sock_addr.GetSockName6) = plain _ _ refl (lit≤ tt) (lit≤ tt) (lit≤ tt)
kind_is (kind.CgroupSockAddr sock_addr.UDPSendMsg4) = plain _ _ refl (lit≤ tt) (lit≤ tt) (lit≤ tt)
kind_is (kind.CgroupSockAddr sock_addr.UDPSendMsg6) = plain _ _ refl (lit≤ tt) (lit≤ tt) (lit≤ tt)
kind_is (kind.CgroupSockAddr sock_addr.UDPRecvMsg4) = plain _ _ refl (lit≤ tt) (lit≤ tt) (lit≤ tt)
kind_is (kind.CgroupSockAddr sock_addr.UDPRecvMsg6) = plain _ _ refl (lit≤ tt) (lit≤ tt) (lit≤ tt)
kind_is kind.CgroupSysctl = plain _ _ refl (lit≤ tt) (lit≤ tt) (lit≤ tt)
kind_is (kind.CgroupSockopt sockopt.Get) = plain _ _ refl (lit≤ tt) (lit≤ tt) (lit≤ tt)
kind_is (kind.CgroupSockopt sockopt.Set) = plain _ _ refl (lit≤ tt) (lit≤ tt) (lit≤ tt)
kind_is kind.LircMode2 = plain _ _ refl (lit≤ tt) (lit≤ tt) (lit≤ tt)
kind_is kind.PerfEvent = plain _ _ refl (lit≤ tt) (lit≤ tt) (lit≤ tt)
kind_is kind.RawTracePoint = plain _ _ refl (lit≤ tt) (lit≤ tt) (lit≤ tt)
kind_is (kind.Lsm false) = plain _ _ refl (lit≤ tt) (lit≤ tt) (lit≤ tt)
kind_is (kind.Lsm true) = plain _ _ refl (lit≤ tt) (lit≤ tt) (lit≤ tt)
kind_is kind.LsmCgroup = plain _ _ refl (lit≤ tt) (lit≤ tt) (lit≤ tt)
kind_is kind.BtfTracePoint = plain _ _ refl (lit≤ tt) (lit≤ tt) (lit≤ tt)
kind_is (kind.FEntry false) = plain _ _ refl (lit≤ tt) (lit≤ tt) (lit≤ tt)
kind_is (kind.FEntry true) = plain _ _ refl (lit≤ tt) (lit≤ tt) (lit≤ tt)
kind_is (kind.FExit false) = plain _ _ refl (lit≤ tt) (lit≤ tt) (lit≤ tt)
kind_is (kind.FExit true) = plain _ _ refl (lit≤ tt) (lit≤ tt) (lit≤ tt)
kind_is kind.FlowDissector = plain _ _ refl (lit≤ tt) (lit≤ tt) (lit≤ tt)
kind_is kind.Extension = plain _ _ refl (lit≤ tt) (lit≤ tt) (lit≤ tt)
kind_is kind.SkLookup = plain _ _ refl (lit≤ tt) (lit≤ tt) (lit≤ tt)
kind_is (kind.SkReuseport reuseport.Select) = plain _ _ refl (lit≤ tt) (lit≤ tt) (lit≤ tt)
kind_is (kind.SkReuseport reuseport.SelectOrMigrate) = plain _ _ refl (lit≤ tt) (lit≤ tt) (lit≤ tt)
kind_is (kind.CgroupSock sock.PostBind4) = plain _ _ refl (lit≤ tt) (lit≤ tt) (lit≤ tt)
kind_is (kind.CgroupSock sock.PostBind6) = plain _ _ refl (lit≤ tt) (lit≤ tt) (lit≤ tt)
kind_is (kind.CgroupSock sock.SockCreate) = plain _ _ refl (lit≤ tt) (lit≤ tt) (lit≤ tt)
kind_is (kind.CgroupSock sock.SockRelease) = plain _ _ refl (lit≤ tt) (lit≤ tt) (lit≤ tt)
kind_is kind.CgroupDevice = plain _ _ refl (lit≤ tt) (lit≤ tt) (lit≤ tt)
kind_is (kind.Iter false) = plain _ _ refl (lit≤ tt) (lit≤ tt) (lit≤ tt)
kind_is (kind.Iter true) = plain _ _ refl (lit≤ tt) (lit≤ tt) (lit≤ tt)

-- Equality of numbers.

both_true : (a b : Bool) → (a && b) ≡ true → (a ≡ true) × (b ≡ true)
both_true true true h = (refl, refl)
both_true true false h = cc
both_true false b h = cc

eq_is : (m n : ℕ) → (m == n) ≡ true → m ≡ n
eq_is m n h = grind (arith, nat_tests)

are_same_is : (a b : KindNumbers) → are_same a b ≡ true → a ≡ b
are_same_is a b h =
    let p = both_true ((a.kind == b.kind) && (a.first == b.first)) (a.second == b.second) h in
    let q = both_true (a.kind == b.kind) (a.first == b.first) p.0 in
    ap (λ k. numbered k a.first a.second) (eq_is a.kind b.kind q.0)
    ∙ (ap (λ f. numbered b.kind f a.second) (eq_is a.first b.first q.1) ∙ ap (numbered b.kind b.first) (eq_is a.second b.second p.1))

-- Kinds, one after another.

pub others_left : (n : KindNumbers) (all rest : List ProgramSection) (s : ProgramSection) (found : Option ProgramSection) → all ≡ s ∷ rest → are_same (kind_numbers s) n ≡ false → find (λ k. are_same (kind_numbers k) n) all ≡ found → find (λ k. are_same (kind_numbers k) n) rest ≡ found
others_left n all rest s found is isnt left = rw (is, isnt) at left

pub first_left : (n : KindNumbers) (all rest : List ProgramSection) (s : ProgramSection) (found : Option ProgramSection) → all ≡ s ∷ rest → are_same (kind_numbers s) n ≡ true → find (λ k. are_same (kind_numbers k) n) all ≡ found → found ≡ Some s
first_left n all rest s found is same left = sym (rw (is, same) at left)

pub none_left : (n : KindNumbers) (all : List ProgramSection) (found : Option ProgramSection) → length all ≡ 0 → find (λ k. are_same (kind_numbers k) n) all ≡ found → found ≡ None
none_left n [] found is left = sym left
none_left n (s ∷ ss) found is left = absurd cc

found_is : (n : KindNumbers) (all : List ProgramSection) (section : ProgramSection) → find (λ s. are_same (kind_numbers s) n) all ≡ Some section → n ≡ kind_numbers section
found_is n [] section h = cc
found_is n (s ∷ ss) section h = by (found_is n ss section) (are_same (kind_numbers s) n) refl h where
  by : (find (λ s. are_same (kind_numbers s) n) ss ≡ Some section → n ≡ kind_numbers section) → (test : Bool) → are_same (kind_numbers s) n ≡ test → cond test (Some s) (find (λ s. are_same (kind_numbers s) n) ss) ≡ Some section → n ≡ kind_numbers section
  by rest true is h = sym (are_same_is (kind_numbers s) n is) ∙ ap kind_numbers (let same : s ≡ section = cc in same)
  by rest false is h = rest h

-- The kind that was read has these numbers.
pub section_takes : (n : KindNumbers) (section : ProgramSection) → section_of n ≡ Some section → n ≡ kind_numbers section
section_takes n section h = found_is n sections section h

pub section_again : (section : ProgramSection) → section_of (kind_numbers section) ≡ Some section
section_again section = (kind_is section).again
