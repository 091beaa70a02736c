-- The kind of program that numbers stand for.
use Rattle.std.specs.Prelude.{ℕ, ◌==◌, ◌&&◌, Bool, true, false, List, [], ◌∷◌, find, slice_index, Option, Some, None}
use Rattle.plan_lines.specs.ProgramKinds.{kind_numbers, numbered}
use Rattle.plan_lines.specs.declared.program_kind.KindNumbers.{KindNumbers}
use Rattle.program_kinds.specs.declared.attach.CgroupSkbAttachType.TheVariants as skb
use Rattle.program_kinds.specs.declared.attach.CgroupSockAddrAttachType.TheVariants as sock_addr
use Rattle.program_kinds.specs.declared.attach.CgroupSockAttachType.TheVariants as sock
use Rattle.program_kinds.specs.declared.attach.CgroupSockoptAttachType.TheVariants as sockopt
use Rattle.program_kinds.specs.declared.attach.SkReuseportAttachType.TheVariants as reuseport
use Rattle.program_kinds.specs.declared.attach.SkSkbKind.TheVariants as sk_skb
use Rattle.program_kinds.specs.declared.attach.XdpAttachType.TheVariants as xdp
use Rattle.program_kinds.specs.declared.program_section.ProgramSection.{ProgramSection}
use Rattle.program_kinds.specs.declared.program_section.ProgramSection.TheVariants as kind

-- All kinds, in the order of their numbers.
abbrev pub sections : List ProgramSection
sections =
    kind.KRetProbe
    ∷ kind.KProbe
    ∷ kind.UProbe false false
    ∷ kind.UProbe false true
    ∷ kind.UProbe true false
    ∷ kind.UProbe true true
    ∷ kind.URetProbe false false
    ∷ kind.URetProbe false true
    ∷ kind.URetProbe true false
    ∷ kind.URetProbe true true
    ∷ kind.TracePoint
    ∷ kind.SocketFilter
    ∷ kind.Xdp false xdp.Interface
    ∷ kind.Xdp false xdp.CpuMap
    ∷ kind.Xdp false xdp.DevMap
    ∷ kind.Xdp true xdp.Interface
    ∷ kind.Xdp true xdp.CpuMap
    ∷ kind.Xdp true xdp.DevMap
    ∷ kind.SkMsg
    ∷ kind.SkSkbStream sk_skb.StreamParser
    ∷ kind.SkSkbStream sk_skb.StreamVerdict
    ∷ kind.SockOps
    ∷ kind.SchedClassifier
    ∷ kind.CgroupSkb None
    ∷ kind.CgroupSkb (Some skb.Ingress)
    ∷ kind.CgroupSkb (Some skb.Egress)
    ∷ kind.CgroupSockAddr sock_addr.Bind4
    ∷ kind.CgroupSockAddr sock_addr.Bind6
    ∷ kind.CgroupSockAddr sock_addr.Connect4
    ∷ kind.CgroupSockAddr sock_addr.Connect6
    ∷ kind.CgroupSockAddr sock_addr.GetPeerName4
    ∷ kind.CgroupSockAddr sock_addr.GetPeerName6
    ∷ kind.CgroupSockAddr sock_addr.GetSockName4
    ∷ kind.CgroupSockAddr sock_addr.GetSockName6
    ∷ kind.CgroupSockAddr sock_addr.UDPSendMsg4
    ∷ kind.CgroupSockAddr sock_addr.UDPSendMsg6
    ∷ kind.CgroupSockAddr sock_addr.UDPRecvMsg4
    ∷ kind.CgroupSockAddr sock_addr.UDPRecvMsg6
    ∷ kind.CgroupSysctl
    ∷ kind.CgroupSockopt sockopt.Get
    ∷ kind.CgroupSockopt sockopt.Set
    ∷ kind.LircMode2
    ∷ kind.PerfEvent
    ∷ kind.RawTracePoint
    ∷ kind.Lsm false
    ∷ kind.Lsm true
    ∷ kind.LsmCgroup
    ∷ kind.BtfTracePoint
    ∷ kind.FEntry false
    ∷ kind.FEntry true
    ∷ kind.FExit false
    ∷ kind.FExit true
    ∷ kind.FlowDissector
    ∷ kind.Extension
    ∷ kind.SkLookup
    ∷ kind.SkReuseport reuseport.Select
    ∷ kind.SkReuseport reuseport.SelectOrMigrate
    ∷ kind.CgroupSock sock.PostBind4
    ∷ kind.CgroupSock sock.PostBind6
    ∷ kind.CgroupSock sock.SockCreate
    ∷ kind.CgroupSock sock.SockRelease
    ∷ kind.CgroupDevice
    ∷ kind.Iter false
    ∷ kind.Iter true
    ∷ []

abbrev pub are_same : KindNumbers → KindNumbers → Bool
are_same a b = (a.kind == b.kind) && (a.first == b.first) && (a.second == b.second)

-- The kind that has these numbers.
abbrev pub section_of : KindNumbers → Option ProgramSection
section_of n = find (λ s. are_same (kind_numbers s) n) sections

abbrev pub section_by : List ℕ → Option ProgramSection
section_by numbers =
    section_of (numbered (slice_index numbers 0) (slice_index numbers 1) (slice_index numbers 2))
