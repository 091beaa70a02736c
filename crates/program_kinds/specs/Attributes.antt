-- The attributes of a program for BPF_PROG_LOAD, by its kind.
use Rattle.std.specs.Prelude.{ℕ, Bool, Option, Some, None, if◌then◌else◌}
use Rattle.program_kinds.specs.Attach.{of_xdp, of_sk_skb, of_sk_reuseport, of_cgroup_skb, of_cgroup_sockopt, of_cgroup_sock, of_cgroup_sock_addr}
use Rattle.program_kinds.specs.Bindings.{attach_type_number}
use Rattle.program_kinds.specs.declared.bindings.bpf_prog_type.{bpf_prog_type}
use Rattle.program_kinds.specs.declared.bindings.bpf_prog_type.TheVariants as prog
use Rattle.program_kinds.specs.declared.bindings.bpf_attach_type.{bpf_attach_type}
use Rattle.program_kinds.specs.declared.program_section.ProgramSection.{ProgramSection}
use Rattle.program_kinds.specs.declared.program_section.ProgramSection.TheVariants.{KRetProbe, KProbe, UProbe, URetProbe, TracePoint, SocketFilter, Xdp, SkMsg, SkSkbStream, SockOps, SchedClassifier, CgroupSkb, CgroupSockAddr, CgroupSysctl, CgroupSockopt, LircMode2, PerfEvent, RawTracePoint, Lsm, LsmCgroup, BtfTracePoint, FEntry, FExit, FlowDissector, Extension, SkLookup, SkReuseport, CgroupSock, CgroupDevice, Iter}
use Rattle.program_kinds.specs.declared.attributes.LoadAttributes.{LoadAttributes}

-- Numbers of the kernel's enum bpf_attach_type.
abbrev pub cgroup_sock_ops : ℕ
cgroup_sock_ops = 3

abbrev pub cgroup_device : ℕ
cgroup_device = 6

abbrev pub sk_msg_verdict : ℕ
sk_msg_verdict = 7

abbrev pub lirc_mode2 : ℕ
lirc_mode2 = 16

abbrev pub flow_dissector : ℕ
flow_dissector = 17

abbrev pub cgroup_sysctl : ℕ
cgroup_sysctl = 18

abbrev pub trace_raw_tp : ℕ
trace_raw_tp = 23

abbrev pub trace_fentry : ℕ
trace_fentry = 24

abbrev pub trace_fexit : ℕ
trace_fexit = 25

abbrev pub lsm_mac : ℕ
lsm_mac = 27

abbrev pub trace_iter : ℕ
trace_iter = 28

abbrev pub sk_lookup : ℕ
sk_lookup = 36

abbrev pub lsm_cgroup : ℕ
lsm_cgroup = 43

abbrev pub trace_uprobe_multi : ℕ
trace_uprobe_multi = 48

-- The value of a flag if the flag is set, and 0 otherwise.
abbrev pub flag : Bool → ℕ → ℕ
flag is_set value = if is_set then value else 0

abbrev pub sleepable_flag : Bool → ℕ
sleepable_flag sleepable = flag sleepable 16

abbrev pub frags_flag : Bool → ℕ
frags_flag frags = flag frags 32

-- The attach type of a probe of many functions.
abbrev pub multi : Bool → Option ℕ
multi is_multi = if is_multi then Some trace_uprobe_multi else None

abbrev pub place : bpf_attach_type → Option ℕ
place attach_type = Some (attach_type_number attach_type)

abbrev pub attributes : bpf_prog_type → Option ℕ → ℕ → LoadAttributes
attributes prog_type attach_type flags =
    record { prog_type = prog_type; expected_attach_type = attach_type; flags = flags }

-- The program type, expected attach type and flags of each kind.
abbrev pub attributes_of : ProgramSection → LoadAttributes
attributes_of KRetProbe = attributes prog.BPF_PROG_TYPE_KPROBE None 0
attributes_of KProbe = attributes prog.BPF_PROG_TYPE_KPROBE None 0
attributes_of (UProbe sleepable is_multi) =
    attributes prog.BPF_PROG_TYPE_KPROBE (multi is_multi) (sleepable_flag sleepable)
attributes_of (URetProbe sleepable is_multi) =
    attributes prog.BPF_PROG_TYPE_KPROBE (multi is_multi) (sleepable_flag sleepable)
attributes_of TracePoint = attributes prog.BPF_PROG_TYPE_TRACEPOINT None 0
attributes_of SocketFilter = attributes prog.BPF_PROG_TYPE_SOCKET_FILTER None 0
attributes_of (Xdp frags attach_type) =
    attributes prog.BPF_PROG_TYPE_XDP (place (of_xdp attach_type)) (frags_flag frags)
attributes_of SkMsg = attributes prog.BPF_PROG_TYPE_SK_MSG (Some sk_msg_verdict) 0
attributes_of (SkSkbStream kind) = attributes prog.BPF_PROG_TYPE_SK_SKB (place (of_sk_skb kind)) 0
attributes_of SockOps = attributes prog.BPF_PROG_TYPE_SOCK_OPS (Some cgroup_sock_ops) 0
attributes_of SchedClassifier = attributes prog.BPF_PROG_TYPE_SCHED_CLS None 0
attributes_of (CgroupSkb None) = attributes prog.BPF_PROG_TYPE_CGROUP_SKB None 0
attributes_of (CgroupSkb (Some way)) =
    attributes prog.BPF_PROG_TYPE_CGROUP_SKB (place (of_cgroup_skb way)) 0
attributes_of (CgroupSockAddr call) =
    attributes prog.BPF_PROG_TYPE_CGROUP_SOCK_ADDR (place (of_cgroup_sock_addr call)) 0
attributes_of CgroupSysctl = attributes prog.BPF_PROG_TYPE_CGROUP_SYSCTL (Some cgroup_sysctl) 0
attributes_of (CgroupSockopt call) =
    attributes prog.BPF_PROG_TYPE_CGROUP_SOCKOPT (place (of_cgroup_sockopt call)) 0
attributes_of LircMode2 = attributes prog.BPF_PROG_TYPE_LIRC_MODE2 (Some lirc_mode2) 0
attributes_of PerfEvent = attributes prog.BPF_PROG_TYPE_PERF_EVENT None 0
attributes_of RawTracePoint = attributes prog.BPF_PROG_TYPE_RAW_TRACEPOINT None 0
attributes_of (Lsm sleepable) =
    attributes prog.BPF_PROG_TYPE_LSM (Some lsm_mac) (sleepable_flag sleepable)
attributes_of LsmCgroup = attributes prog.BPF_PROG_TYPE_LSM (Some lsm_cgroup) 0
attributes_of BtfTracePoint = attributes prog.BPF_PROG_TYPE_TRACING (Some trace_raw_tp) 0
attributes_of (FEntry sleepable) =
    attributes prog.BPF_PROG_TYPE_TRACING (Some trace_fentry) (sleepable_flag sleepable)
attributes_of (FExit sleepable) =
    attributes prog.BPF_PROG_TYPE_TRACING (Some trace_fexit) (sleepable_flag sleepable)
attributes_of FlowDissector = attributes prog.BPF_PROG_TYPE_FLOW_DISSECTOR (Some flow_dissector) 0
attributes_of Extension = attributes prog.BPF_PROG_TYPE_EXT None 0
attributes_of SkLookup = attributes prog.BPF_PROG_TYPE_SK_LOOKUP (Some sk_lookup) 0
attributes_of (SkReuseport choices) =
    attributes prog.BPF_PROG_TYPE_SK_REUSEPORT (place (of_sk_reuseport choices)) 0
attributes_of (CgroupSock event) =
    attributes prog.BPF_PROG_TYPE_CGROUP_SOCK (place (of_cgroup_sock event)) 0
attributes_of CgroupDevice = attributes prog.BPF_PROG_TYPE_CGROUP_DEVICE (Some cgroup_device) 0
attributes_of (Iter sleepable) =
    attributes prog.BPF_PROG_TYPE_TRACING (Some trace_iter) (sleepable_flag sleepable)
